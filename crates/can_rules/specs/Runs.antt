-- Frames one after another, of any senders in any order.
use Rattle.std.specs.Prelude.{ℕ, zero, suc, Bool, cond, not, ◌&&◌, ◌||◌, List, [], ◌∷◌, ◌++◌, eqb}
use Rattle.basics.specs.Lists.{any, without}
use Rattle.can_rules.specs.declared.Frame.{Frame}
use Rattle.can_rules.specs.Frames.{part_of}
use Rattle.can_rules.specs.Aliases.{Aliases}
use Rattle.can_rules.specs.Joining.{Begun, Handed, Outcome, join, starts, continues, sender_of}

-- What is answered to a frame, beside the joining state.
pub record Answer : Type 0 where
  pub refusal : ℕ
  pub handed : List Handed

abbrev pub answer : ℕ → List Handed → Answer
answer k h = record { refusal = k; handed = h }

abbrev pub answer_in : Outcome → Answer
answer_in o = answer o.refusal o.handed

-- ---- some of the frames

abbrev pub from : Aliases → ℕ → Frame → Bool
from l n f = eqb (sender_of l f) n

-- A start, a middle or a last: the frames that can change what a sender has begun.
abbrev pub piece : Frame → Bool
piece f = starts (part_of f) || continues (part_of f)

abbrev pub piece_from : Aliases → ℕ → Frame → Bool
piece_from l n f = from l n f && piece f

abbrev pub those : (Frame → Bool) → List Frame → List Frame
those mine fs = without (λ f. not (mine f)) fs

-- ---- joined one after another

-- All frames are joined; what is answered to those that are mine.
abbrev pub answers_to : (Frame → Bool) → Aliases → List Begun → List Frame → List Answer
answers_to mine l s [] = []
answers_to mine l s (f ∷ fs) =
    cond (mine f) (answer_in (join l s f) ∷ answers_to mine l (join l s f).next fs) (answers_to mine l (join l s f).next fs)

-- The joining state that they leave.
abbrev pub after : Aliases → List Begun → List Frame → List Begun
after l s [] = s
after l s (f ∷ fs) = after l (join l s f).next fs

-- One of them was refused with 20.
abbrev pub crowded : List Answer → Bool
crowded xs = any (λ a. eqb a.refusal 20) xs

-- Nothing until the last, and then the message.
abbrev pub at_last : ℕ → Handed → List Answer
at_last zero h = answer 0 (h ∷ []) ∷ []
at_last (suc k) h = answer 0 [] ∷ at_last k h

-- ---- losses

-- The second is the first without its first frame, or without its last.
pub data Lost : List Frame → List Frame → Type 0 where
  first : (f : Frame) (fs : List Frame) → Lost (f ∷ fs) fs
  last : (f : Frame) (fs : List Frame) → Lost (fs ++ (f ∷ [])) fs
