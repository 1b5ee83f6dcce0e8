-- THEOREM: a complete message is handed out right, whatever its sender sent before it: a damaged message, pieces of one, or nothing.
use Prim.Native.Nat.{ℕ, zero, suc, ◌-◌, ◌^◌}
use mathlib.Core.Path.{◌≡◌, refl}
use mathlib.Core.Bool.{Bool, true, false, cond, not}
use mathlib.Core.List.{List, [], ◌∷◌, ◌++◌}
use native.Mathlib.Omega.{arith}
use lib.Dec.{eqb}
use lib.ListN.{length, drop}
use Rattle.basics.specs.Lists.{any}
use Rattle.basics.specs.Refusals.{first_of}
use Rattle.basics.proofs.Bools.{neither}
use Rattle.message.specs.declared.Message.{Message}
use Rattle.message.specs.Messages.{Below}
use Rattle.can_rules.specs.declared.Frame.{Frame}
use Rattle.can_rules.specs.Aliases.{Aliases}
use Rattle.can_rules.specs.Joining.{Begun, bad_joining, join}
use Rattle.can_rules.specs.Splitting.{split_of, report_tests}
use Rattle.can_rules.specs.Runs.{Answer, answer_in, from, those, answers_to, crowded, at_last, Lost}
use Rattle.can_rules.proofs.Changes.{stays_in_bounds}
use Rattle.can_rules.proofs.Reports.{handing}
use Rattle.can_rules.proofs.RoundTrip.{round_trip}

none_after : {A : Type 0} (test : A → Bool) (k : ℕ) (xs : List A) → any test xs ≡ false → any test (drop k xs) ≡ false
none_after test zero xs h = h
none_after test (suc k) [] h = refl
none_after test (suc k) (x ∷ xs) h = none_after test k xs (neither (test x) (any test xs) h).1

module _ (l : Aliases) (m : Message) (payload : List ℕ) (e : first_of (report_tests l m payload) ≡ 0) (low : Below (2 ^ 64) m.event) where
  -- NEXT COMPLETE. Whatever frames of its sender, `earlier`, came before it: the answers to a complete message's own frames are nothing until the last, and
  -- then the message, where none of these is refused with 20.
  pub next_complete : (s : List Begun) (fs earlier : List Frame) → bad_joining s ≡ false → those (from l m.source) fs ≡ earlier ++ split_of l m payload
      → crowded (drop (length earlier) (answers_to (from l m.source) l s fs)) ≡ false
      → drop (length earlier) (answers_to (from l m.source) l s fs) ≡ at_last (length (split_of l m payload) - 1) (handing m payload)
  next_complete s fs [] ok split calm = round_trip l m payload e low s fs ok split calm
  next_complete s [] (g ∷ earlier) ok split calm = let z : ◌≡◌ {A = ℕ} 0 1 = cc in absurd (omega arith)
  next_complete s (f ∷ fs) (g ∷ earlier) ok split calm =
      go (from l m.source f) split calm (next_complete (join l s f).next fs earlier next_ok) (next_complete (join l s f).next fs (g ∷ earlier) next_ok)
    where
      mine : Frame → Bool
      mine = from l m.source

      next_ok : bad_joining (join l s f).next ≡ false
      next_ok = stays_in_bounds l s f ok

      rest : List Answer
      rest = answers_to (from l m.source) l (join l s f).next fs

      expected : List Answer
      expected = at_last (length (split_of l m payload) - 1) (handing m payload)

      -- A frame of this sender is one of the earlier, and any other is passed over.
      go : (is : Bool) → cond (not is) (those mine fs) (f ∷ those mine fs) ≡ g ∷ (earlier ++ split_of l m payload)
          → crowded (drop (suc (length earlier)) (cond is (answer_in (join l s f) ∷ rest) rest)) ≡ false
          → (those mine fs ≡ earlier ++ split_of l m payload → crowded (drop (length earlier) rest) ≡ false → drop (length earlier) rest ≡ expected)
          → (those mine fs ≡ g ∷ (earlier ++ split_of l m payload) → crowded (drop (suc (length earlier)) rest) ≡ false → drop (suc (length earlier)) rest ≡ expected)
          → drop (suc (length earlier)) (cond is (answer_in (join l s f) ∷ rest) rest) ≡ expected
      go true split calm one all = let fewer : those mine fs ≡ earlier ++ split_of l m payload = cc in one fewer calm
      go false split calm one all = all split calm

  -- LOSS. Of an earlier message of the same sender only the first or only the last frame was lost, and no start of this sender is refused with 20.
  pub loss : (s : List Begun) (fs : List Frame) (before : Message) (payload₁ : List ℕ) (damaged : List Frame) → bad_joining s ≡ false → before.source ≡ m.source
      → Lost (split_of l before payload₁) damaged → those (from l m.source) fs ≡ damaged ++ split_of l m payload
      → crowded (answers_to (from l m.source) l s fs) ≡ false
      → drop (length damaged) (answers_to (from l m.source) l s fs) ≡ at_last (length (split_of l m payload) - 1) (handing m payload)
  loss s fs before payload₁ damaged ok same lost split calm =
      next_complete s fs damaged ok split (none_after (λ a. eqb a.refusal 20) (length damaged) (answers_to (from l m.source) l s fs) calm)
