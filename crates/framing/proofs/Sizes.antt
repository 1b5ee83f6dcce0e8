-- How many bytes a step shows, and how large its refusal's number is.
use Prim.Native.Nat.{ℕ, ◌+◌, ◌≤◌}
use mathlib.Core.Path.{◌≡◌, refl, sym, ◌∙◌}
use mathlib.Core.Bool.{Bool, true, false, cond}
use mathlib.Core.List.{List, [], ◌∷◌, ◌++◌}
use native.Mathlib.Omega.{arith}
use borrow.Author.Tests.{eqb-true, eqb-false}
use lib.Dec.{eqb}
use lib.ListN.{length, length-append}
use Rattle.basics.specs.Refusals.{refuse, first_of}
use Rattle.basics.proofs.Firsts.{first_some, first_up_to}
use Rattle.numbers.specs.Numbers.{bytes_of}
use Rattle.numbers.proofs.Laws.{bytes_length}
use Rattle.message.specs.declared.Message.{Message}
use Rattle.message.specs.Messages.{message_bytes}
use Rattle.can_rules.specs.declared.Frame.{Frame}
use Rattle.can_rules.specs.Frames.{all_bytes}
use Rattle.can_rules.specs.Aliases.{Aliases}
use Rattle.can_rules.specs.Joining.{Begun, Handed, report, join_tests, join}
use Rattle.can_rules.specs.Splitting.{split_of, middles, no_room, report_tests, split_tests}
use Rattle.can_rules.proofs.Exactly.{join_number}
use Rattle.can_rules.proofs.Reports.{Reporting, splittable}
use Rattle.can_rules.proofs.Reports.Reporting.{bare, laden}
use Rattle.can_rules.proofs.Sizes.{frame_count, split_size as thirteen}

-- ---- a split that is accepted

reporting_few : {n : ℕ} {h : Handed} → Reporting n h → length h.payload ≤ 256
reporting_few (bare event) = omega arith
reporting_few (laden event payload some most) = most

module _ (l : Aliases) (m : Message) (content out : List ℕ) where
  reports : first_of (split_tests l m content out) ≡ 0 → first_of (report_tests l m content) ≡ 0
  reports e = go (eqb (first_of (report_tests l m content)) 0) refl
    where
      go : (t : Bool) → eqb (first_of (report_tests l m content)) 0 ≡ t → first_of (report_tests l m content) ≡ 0
      go true h = eqb-true (first_of (report_tests l m content)) 0 h
      go false h = sym (first_some (report_tests l m content) (refuse 6 (no_room l m content out) ∷ []) (eqb-false (first_of (report_tests l m content)) 0 h)) ∙ e

  -- 256 bytes of payload make 33 frames.
  pub split_size : first_of (split_tests l m content out) ≡ 0 → length (all_bytes (split_of l m content)) ≤ 429
  split_size e = go (eqb m.mti 0x05B4) (frame_count l m content)
    where
      few : length content ≤ 256
      few = reporting_few (splittable l m content (reports e)).one_of_two

      go : (t : Bool) → length (split_of l m content) ≡ cond t 1 (1 + middles content + 1) → length (all_bytes (split_of l m content)) ≤ 429
      go true count = omega (arith, thirteen l m content (reports e), count)
      go false count = omega (arith, thirteen l m content (reports e), count, few)

  pub split_up_to : first_of (split_tests l m content out) ≤ 29
  split_up_to = first_up_to 29 (split_tests l m content out) refl

-- ---- a join

pub join_up_to : (l : Aliases) (s : List Begun) (f : Frame) → (join l s f).refusal ≤ 29
join_up_to l s f = omega (arith, join_number l s f, first_up_to 29 (join_tests l s f) refl)

pub report_length : (mti n event : ℕ) (payload : List ℕ) → length (message_bytes (report mti n event payload).message payload) ≡ 16 + length payload
report_length mti n event payload =
    let a = bytes_of 2 mti in
    let b = bytes_of 6 n in
    let c = bytes_of 8 event in
    omega (arith, length-append a (b ++ (c ++ payload)), length-append b (c ++ payload), length-append c payload, bytes_length 2 mti, bytes_length 6 n, bytes_length 8 event)

pub reporting_length : {n : ℕ} {h : Handed} → Reporting n h → length (message_bytes h.message h.payload) ≤ 272
reporting_length {n} (bare event) = omega (arith, report_length 0x05B4 n event [])
reporting_length {n} (laden event payload some most) = omega (arith, report_length 0x0F14 n event payload, most)
