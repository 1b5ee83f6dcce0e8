-- Where a message goes and what it changes, by what it says.
use Prim.Native.Nat.{ℕ}
use mathlib.Core.Path.{◌≡◌, refl, ap, ◌∙◌}
use mathlib.Core.Bool.{Bool, not, ◌&&◌}
use mathlib.Core.List.{[], ◌∷◌}
use denote.Enum.Declared.{tag_of, declared}
use types.Run.{OneOf, miss}
use lib.Dec.{eqb, ltb}
use Rattle.basics.specs.Sets.{set_of, in_set}
use Rattle.basics.proofs.Sets.{member_of_set, set_ext}
use Rattle.message.specs.declared.Message.{Message}
use Rattle.message.specs.declared.Saying.{Saying}
use Rattle.message.specs.declared.Saying.TheVariants.{Report, Announcement, Restart, Inquiry, InquiryForAll, Learn, Nothing}
use Rattle.message.specs.contracts.Saying.{enum as sayings}
use Rattle.message.specs.Saying.{said_by}
use Rattle.gateway_rules.specs.State.{Gate}
use Rattle.gateway_rules.specs.Step.{wanted_at, goes_to, hear, taken}
use Rattle.gateway.specs.declared.state.Head.{Head}
use Rattle.gateway.specs.State.{Lists, gate_in}
use Rattle.gateway.specs.Answers.{wanted_by}

abbrev but : ℕ → ℕ → (ℕ → Bool) → ℕ
but ports port want = set_of 8 (λ p. ltb p ports && (not (eqb p port) && want p))

goes_wanted : (g : Gate) (q : ℕ) (m : Message) (set : ℕ) → set ≡ wanted_by g (said_by m) → but g.ports q (in_set set) ≡ set_of 8 (goes_to g q m)
unfolding goes_to
goes_wanted g q m set e =
    set_ext 8 (λ p. ltb p g.ports && (not (eqb p q) && in_set set p)) (goes_to g q m)
    (λ p l.
    ap (λ (t : Bool). ltb p g.ports && (not (eqb p q) && t))
    (ap (λ (x : ℕ). in_set x p) e ∙ member_of_set 8 (λ p. wanted_at g p (said_by m)) p l))

-- Where a message that these ports want goes: the port count is that of the code's state.
pub sent_wanted : (head : Head) (t : Lists) (q : ℕ) (m : Message) (set : ℕ) → set ≡ wanted_by (gate_in head t) (said_by m)
    → but head.ports q (in_set set) ≡ set_of 8 (goes_to (gate_in head t) q m)
unfolding gate_in
sent_wanted head t q m set e = goes_wanted (gate_in head t) q m set e

-- What is neither a restart nor an announcement changes nothing.
pub unheard : (g : Gate) (q node : ℕ) (s : Saying) → OneOf (0 ∷ 1 ∷ 3 ∷ 4 ∷ 5 ∷ 6 ∷ []) (tag_of (declared sayings) s)
    → OneOf (0 ∷ 2 ∷ 3 ∷ 4 ∷ 5 ∷ 6 ∷ []) (tag_of (declared sayings) s) → g ≡ hear g q node s
unheard g q node Restart k l = absurd (miss (0 ∷ 1 ∷ 3 ∷ 4 ∷ 5 ∷ 6 ∷ []) 2 tt k)
unheard g q node (Announcement b) k l = absurd (miss (0 ∷ 2 ∷ 3 ∷ 4 ∷ 5 ∷ 6 ∷ []) 1 tt l)
unheard g q node (Report e) k l = refl
unheard g q node (Inquiry role e) k l = refl
unheard g q node (InquiryForAll destination) k l = refl
unheard g q node (Learn e) k l = refl
unheard g q node Nothing k l = refl

pub heard_taken : (g : Gate) (q : ℕ) (m : Message) → hear g q m.source (said_by m) ≡ taken g q m
unfolding taken
heard_taken g q m = refl
