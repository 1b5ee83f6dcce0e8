-- The tests of splitting, as the code makes them, and what they leave of the message.
use Rattle.std.specs.Prelude.{Result, Ok, Err, Some, None as Missing, IfSome, slice_get}
use Rattle.std.proofs.Common.{subst}
use Rattle.basics.specs.declared.Refusal.{Refusal}
use Prim.Native.Nat.{ℕ, zero, suc, ◌+◌, ◌*◌, ◌≤◌, ◌<◌}
use mathlib.Core.Path.{◌≡◌, refl, sym, ap, ap₂, ◌∙◌}
use mathlib.Core.Logic.{◌⊎◌, inl, inr, ⊎_elim}
use mathlib.Core.Bool.{Bool, true, false, cond, not, ◌||◌, true≢false}
use mathlib.Core.List.{List, [], ◌∷◌, ◌++◌, append-nil}
use native.Mathlib.Omega.{arith}
use borrow.Author.Tests.{eq-eqb, ne_eqb, eqb-true, eqb-false, ltb-false, lt-ltb, le-ltb}
use lib.Dec.{eqb, ltb}
use lib.ListN.{length, length-append}
use Rattle.numbers.specs.Numbers.{bytes_of, pasted}
use Rattle.numbers.proofs.Laws.{bytes_length}
use Rattle.numbers.proofs.Pasting.{pasted_first}
use Rattle.can_aliases.proofs.Lists.{low_enough}
use Rattle.basics.specs.Refusals.{Test, refuse, first_of, answered, Told, told, refused, refusal_number, refusal_in, in_numbers, told_of, None}
use Rattle.basics.proofs.Bools.{neither}
use Rattle.basics.proofs.Firsts.{first_some, first_after, first_none, first_passed, rest_passed, first_up_to, told_number_lem, answered_yes, answered_no}
use Rattle.message.specs.declared.Kind.TheVariants.{EventReport}
use Rattle.message.specs.declared.Message.{Message}
use Rattle.message.specs.Mti.{addressed, carries_event, barred, mtis_of, meaning_of}
use Rattle.message.specs.Messages.{content_tests, message_bytes, field_bytes, misplaced, bad_content}
use Rattle.message.specs.Writing.{no_room, write_tests, write_told, overwritten}
use Rattle.message.proofs.KindsOfMti.{kind_exactly}
use Rattle.message.proofs.Writings.{content_placed}
use Rattle.can_rules.specs.declared.Frame.{Frame}
use Rattle.can_rules.specs.declared.Part.TheVariants.{Whole, Start}
use Rattle.can_rules.specs.Frames.{header_of, frame, frame_bytes, all_bytes}
use Rattle.can_rules.specs.Aliases.{Aliases, highest_alias, bad_aliases, no_alias, alias_for}
use Rattle.can_rules.specs.Splitting.{middles, no_report, frames_of, split_of, split_tests, split_told, out_after_split}
use Rattle.can.specs.Splits.{message_tests, room_tests, room_told, out_where_room, to_do}
use Rattle.can.proofs.Written.{spelled_out, spelled_length, next, frame_of_eight}
use Rattle.can.proofs.Pieces.{to_do_length}

-- ---- writing where there is no room

told_refusal : {A : Type 0} (w : Result A Refusal) → (told_of (in_numbers w)).refusal ≡ refusal_in w
told_refusal (Ok x) = refl
told_refusal (Err r) = refl

module _ (m : Message) (payload : List ℕ) where
  -- The refusals 2 to 5.
  abbrev before29 : List Test
  before29 = refuse 2 (barred m.mti) ∷ content_tests m payload

  full : no_room m payload [] ≡ true
  full =
      let rest = bytes_of 6 m.source ++ (field_bytes 6 m.destination ++ (field_bytes 8 m.event ++ payload)) in
      lt-ltb 0 (length (message_bytes m payload)) (omega (arith, length-append (bytes_of 2 m.mti) rest, bytes_length 2 m.mti))

  last_is_6 : first_of (write_tests m payload []) ≡ first_of (before29 ++ (refuse 6 true ∷ []))
  last_is_6 = ap (λ (t : Bool). first_of (before29 ++ (refuse 6 t ∷ []))) full

  -- What is refused with 2 to 5 is so by writing; all else with 6.
  by_writing : (k : ℕ) → first_of before29 ≡ k → first_of (write_tests m payload []) ≡ cond (eqb k 0) 6 k
  by_writing zero e = last_is_6 ∙ first_after ((first_none before29 refl).0 e) (refuse 6 true ∷ [])
  by_writing (suc k) e = last_is_6 ∙ first_some before29 (refuse 6 true ∷ []) (λ z. omega (arith, z, e)) ∙ e ∙ sym (ap (λ (t : Bool). cond t 6 (suc k)) (ne_eqb (suc k) 0 (λ z. omega (arith, z))))

  module _ (w : Result ℕ Refusal) (e : told_of (in_numbers w) ≡ write_told m payload []) where
    number : refusal_in w ≡ first_of (write_tests m payload [])
    unfolding write_told
    number = sym (told_refusal w) ∙ ap (λ (t : Told (List ℕ)). t.refusal) e ∙ told_number_lem (write_tests m payload []) (length (message_bytes m payload))

    small : first_of before29 ≤ 5
    small = first_up_to 5 before29 refl

    -- Nothing is written.
    pub never_written : (n : ℕ) → w ≡ Ok n → ⊥
    never_written n f = go (first_of before29) refl
      where
        none : first_of (write_tests m payload []) ≡ 0
        none = sym number ∙ ap refusal_in f

        go : (k : ℕ) → first_of before29 ≡ k → ⊥
        go zero g = omega (arith, sym (by_writing zero g) ∙ none)
        go (suc k) g = omega (arith, sym (by_writing (suc k) g ∙ ap (λ (t : Bool). cond t 6 (suc k)) (ne_eqb (suc k) 0 (λ z. omega (arith, z)))) ∙ none)

    module _ (r : Refusal) (f : w ≡ Err r) where
      abbrev n : ℕ
      n = refusal_number r

      given : n ≡ first_of (write_tests m payload [])
      given = sym (ap refusal_in f) ∙ number

      pub refused_before : (n ≡ 6 → ⊥) → n ≡ first_of (message_tests m payload)
      refused_before other = go (first_of before29) refl
        where
          go : (k : ℕ) → first_of before29 ≡ k → n ≡ first_of (message_tests m payload)
          go zero g = absurd (other (given ∙ by_writing zero g))
          go (suc k) g =
              given
              ∙ by_writing (suc k) g
              ∙ ap (λ (t : Bool). cond t 6 (suc k)) (ne_eqb (suc k) 0 (λ z. omega (arith, z)))
              ∙ sym (first_some before29 (refuse 29 (no_report m) ∷ []) (λ z. omega (arith, z, g)) ∙ g)

      pub passed_before : n ≡ 6 → first_of (message_tests m payload) ≡ cond (no_report m) 29 0
      passed_before six = go (first_of before29) refl
        where
          go : (k : ℕ) → first_of before29 ≡ k → first_of (message_tests m payload) ≡ cond (no_report m) 29 0
          go zero g = first_after ((first_none before29 refl).0 g) (refuse 29 (no_report m) ∷ [])
          go (suc k) g =
              absurd (omega (arith, small, g, sym six ∙ given ∙ by_writing (suc k) g ∙ ap (λ (t : Bool). cond t 6 (suc k)) (ne_eqb (suc k) 0 (λ z. omega (arith, z)))))

  -- ---- 29

  report_mtis : no_report m ≡ not (eqb m.mti 0x05B4 || (eqb m.mti 0x0F14 || false))
  unfolding mtis_of
  report_mtis = ap not (kind_exactly EventReport refl m.mti)

  pub is_report_lem : (m.mti ≡ 0x05B4) ⊎ (m.mti ≡ 0x0F14) → no_report m ≡ false
  is_report_lem (inl e) = report_mtis ∙ ap (λ (t : Bool). not (t || (eqb m.mti 0x0F14 || false))) (eq-eqb m.mti 0x05B4 e)
  is_report_lem (inr e) = report_mtis ∙ rw (ne_eqb m.mti 0x05B4 (λ z. omega (arith, sym z ∙ e)), eq-eqb m.mti 0x0F14 e)

  pub is_none : (m.mti ≡ 0x05B4 → ⊥) → (m.mti ≡ 0x0F14 → ⊥) → no_report m ≡ true
  is_none e f = report_mtis ∙ rw (ne_eqb m.mti 0x05B4 e, ne_eqb m.mti 0x0F14 f)

-- ---- a message that passes

module _ (m : Message) (payload : List ℕ) (good : first_of (message_tests m payload) ≡ 0) where
  passed : None (message_tests m payload)
  passed = (first_none (message_tests m payload) refl).0 good

  content : bad_content m payload ≡ false
  content = first_passed (rest_passed (rest_passed passed))

  report : (m.mti ≡ 0x05B4) ⊎ (m.mti ≡ 0x0F14)
  report = go (eqb m.mti 0x05B4) refl (eqb m.mti 0x0F14) refl
    where
      found : not (eqb m.mti 0x05B4 || (eqb m.mti 0x0F14 || false)) ≡ false
      found = sym (report_mtis m payload) ∙ first_passed (rest_passed (rest_passed (rest_passed (rest_passed passed))))

      go : (s : Bool) → eqb m.mti 0x05B4 ≡ s → (t : Bool) → eqb m.mti 0x0F14 ≡ t → (m.mti ≡ 0x05B4) ⊎ (m.mti ≡ 0x0F14)
      go true e t f = inl (eqb-true m.mti 0x05B4 e)
      go false e true f = inr (eqb-true m.mti 0x0F14 f)
      go false e false f = absurd (true≢false (sym (ap₂ (λ (s t : Bool). not (s || (t || false))) e f) ∙ found))

  -- Both MTIs carry an event.
  pub event_there : m.event ≡ Missing → ⊥
  event_there e = true≢false (sym (carried report) ∙ sym (ap (misplaced (carries_event m.mti)) e) ∙ (content_placed m payload content).event)
    where
      carried : (m.mti ≡ 0x05B4) ⊎ (m.mti ≡ 0x0F14) → carries_event m.mti ≡ true
      carried (inl f) = ap carries_event f
      carried (inr f) = ap carries_event f

  -- 0F14 has 1 to 256 bytes of payload.
  pub payload_there : (m.mti ≡ 0x05B4 → ⊥) → (0 < length payload) × (length payload ≤ 256)
  unfolding bad_content meaning_of
  payload_there other =
      let mti : m.mti ≡ 0x0F14 = ⊎_elim (λ e. absurd (other e)) (λ e. e) report in
      let lengths = (neither (misplaced (carries_event m.mti) m.event) _ (neither (misplaced (addressed m.mti) m.destination) _ content).1).1 in
      let h = neither (ltb (length payload) (meaning_of m.mti).least) _ lengths in (
        ltb-false (length payload) 1 (ap (λ (n : ℕ). ltb (length payload) (meaning_of n).least) (sym mti) ∙ h.0),
        ltb-false 256 (length payload) (ap (λ (n : ℕ). ltb (meaning_of n).most (length payload)) (sym mti) ∙ h.1),
      )

-- ---- where only room is left to test

module _ (alias e : ℕ) (m : Message) (payload out left : List ℕ) (there : m.event ≡ Some e) where
  abbrev fs : List Frame
  fs = frames_of alias m payload

  -- What is told, and what is left in the output.
  abbrev Answers : Told (List ℕ) → List ℕ → Type 0
  Answers t after = (t ≡ room_told fs out) × (after ≡ out_where_room fs out)

  no_room_lem : length out < length (all_bytes fs) → Answers (refused 6 []) out
  no_room_lem h =
      let six : first_of (room_tests fs out) ≡ 6 = ap (λ (t : Bool). cond t 6 0) (lt-ltb (length out) (length (all_bytes fs)) h) in (
        sym (ap (λ (k : ℕ). answered (λ n. told (n ∷ [])) (λ n. refused n []) k (length (all_bytes fs))) six),
        sym (ap (λ (k : ℕ). answered (overwritten out) (λ _. out) k (all_bytes fs)) six),
      )

  all_there : (size : ℕ) (bytes : List ℕ) → all_bytes fs ≡ bytes → length bytes ≡ size → size ≤ length out → left ≡ pasted 0 bytes out → Answers (told (size ∷ [])) left
  all_there size bytes same s h w =
      let none : first_of (room_tests fs out) ≡ 0 = ap (λ (t : Bool). cond t 6 0) (le-ltb (length out) (length (all_bytes fs)) (omega (arith, ap length same))) in (
        ap (λ (n : ℕ). told (n ∷ [])) (sym s ∙ ap length (sym same)) ∙ sym (answered_yes (λ n. told (n ∷ [])) (λ n. refused n []) (length (all_bytes fs)) none),
        w ∙ pasted_first bytes out ∙ ap (overwritten out) (sym same) ∙ sym (answered_yes (overwritten out) (λ _. out) (all_bytes fs) none),
      )

  whole_frame : m.mti ≡ 0x05B4 → all_bytes (frames_of alias m payload) ≡ spelled_out (header_of Whole alias) 8 e
  unfolding frames_of all_bytes
  whole_frame f = rw (eq-eqb m.mti 0x05B4 f, there) (append-nil (frame_bytes (frame Whole alias (bytes_of 8 e))) ∙ sym (frame_of_eight Whole alias e))

  more_frames : (m.mti ≡ 0x05B4 → ⊥) → all_bytes (frames_of alias m payload) ≡ spelled_out (header_of Start alias) 8 e ++ to_do alias payload
  unfolding frames_of all_bytes
  more_frames f = rw (ne_eqb m.mti 0x05B4 f, there) (ap (λ (l : List ℕ). l ++ to_do alias payload) (sym (frame_of_eight Start alias e)))

  pub whole_answer : m.mti ≡ 0x05B4 → 13 ≤ length out → left ≡ pasted 0 (spelled_out (header_of Whole alias) 8 e) out → Answers (told (13 ∷ [])) left
  whole_answer f h w = all_there 13 (spelled_out (header_of Whole alias) 8 e) (whole_frame f) (spelled_length (header_of Whole alias) 8 e) h w

  module _ (f : m.mti ≡ 0x05B4 → ⊥) where
    more_length : length (spelled_out (header_of Start alias) 8 e ++ to_do alias payload) ≡ 13 * (2 + middles payload)
    more_length =
        length-append (spelled_out (header_of Start alias) 8 e) (to_do alias payload) ∙ omega (arith, spelled_length (header_of Start alias) 8 e, to_do_length alias payload)

    pub more_no_room : length out < 13 * (2 + middles payload) → Answers (refused 6 []) out
    more_no_room h = no_room_lem (omega (arith, ap length (more_frames f), more_length))

    pub more_answer : (header : ℕ) (first : List ℕ) → header ≡ header_of Start alias → 13 * (2 + middles payload) ≤ length out
        → first ≡ pasted 0 (spelled_out header 8 e) out → left ≡ pasted 13 (to_do alias payload) first → Answers (told ((13 * (2 + middles payload)) ∷ [])) left
    more_answer header first g h v w =
        let start = spelled_out (header_of Start alias) 8 e in
        let started : first ≡ pasted 0 start out = v ∙ ap (λ (x : ℕ). pasted 0 (spelled_out x 8 e) out) g in
        all_there (13 * (2 + middles payload)) (start ++ to_do alias payload) (more_frames f) more_length h
        (w ∙ ap (pasted 13 (to_do alias payload)) started ∙ next 0 13 13 start (to_do alias payload) out (spelled_length (header_of Start alias) 8 e) refl (omega arith))

  pub too_small : length out < 13 → Answers (refused 6 []) out
  too_small h = go (eqb m.mti 0x05B4) refl
    where
      go : (t : Bool) → eqb m.mti 0x05B4 ≡ t → Answers (refused 6 []) out
      go true f = no_room_lem (omega (arith, ap length (whole_frame (eqb-true m.mti 0x05B4 f)), spelled_length (header_of Whole alias) 8 e))
      go false f = more_no_room (eqb-false m.mti 0x05B4 f) (omega arith)

-- ---- splitting

-- An alias of a list in bounds is one of 12 bits.
pub alias_fits : (l : Aliases) (i a : ℕ) → bad_aliases l ≡ false → Some a ≡ slice_get l.aliases i → a < 0x1000
alias_fits l i a h e = let low : a ≤ highest_alias = subst (λ o. IfSome o (λ b. b ≤ highest_alias)) (sym e) (low_enough l i h) in omega arith

module _ (l : Aliases) (m : Message) (payload out : List ℕ) where
  abbrev SplitAnswers : Told (List ℕ) → List ℕ → Type 0
  SplitAnswers told after = (told ≡ split_told l m payload out) × (after ≡ out_after_split l m payload out)

  split_refused : (n : ℕ) → (n ≡ 0 → ⊥) → first_of (split_tests l m payload out) ≡ n → SplitAnswers (refused n []) out
  unfolding split_told out_after_split
  split_refused n p e = (
    sym (ap (λ (k : ℕ). answered (λ x. told (x ∷ [])) (λ x. refused x []) k (length (all_bytes (split_of l m payload)))) e ∙ answered_no (λ x. told (x ∷ [])) (λ x. refused x []) n (length (all_bytes (split_of l m payload))) p),
    sym (ap (λ (k : ℕ). answered (overwritten out) (λ _. out) k (all_bytes (split_of l m payload))) e ∙ answered_no (overwritten out) (λ _. out) n (all_bytes (split_of l m payload)) p),
  )

  pub split_7 : bad_aliases l ≡ true → SplitAnswers (refused 7 []) out
  split_7 e = split_refused 7 (λ z. omega (arith, z)) (rw e)

  module _ (bounded : bad_aliases l ≡ false) where
    abbrev later : List Test
    later = refuse 16 (eqb (alias_for l m.source) no_alias) ∷ room_tests (split_of l m payload) out

    in_bounds : first_of (split_tests l m payload out) ≡ first_of (message_tests m payload ++ later)
    in_bounds = ap (λ (t : Bool). cond t 7 (first_of (message_tests m payload ++ later))) bounded

    pub split_message : (n : ℕ) → n ≡ first_of (message_tests m payload) → (n ≡ 0 → ⊥) → SplitAnswers (refused n []) out
    split_message n e p = split_refused n p (in_bounds ∙ first_some (message_tests m payload) later (λ z. p (e ∙ z)) ∙ sym e)

    module _ (good : first_of (message_tests m payload) ≡ 0) where
      is_later : first_of (split_tests l m payload out) ≡ first_of later
      is_later = in_bounds ∙ first_after ((first_none (message_tests m payload) refl).0 good) later

      module _ (alias : ℕ) (e : alias ≡ alias_for l m.source) where
        pub split_16 : alias ≡ 0x1000 → SplitAnswers (refused 16 []) out
        split_16 f = split_refused 16 (λ z. omega (arith, z)) (is_later ∙ ap (λ (t : Bool). cond t 16 (first_of (room_tests (split_of l m payload) out))) (eq-eqb (alias_for l m.source) no_alias (sym e ∙ f)))

        pub split_rest : (alias ≡ 0x1000 → ⊥) → (t : Told (List ℕ)) (after : List ℕ) → t ≡ room_told (frames_of alias m payload) out → after ≡ out_where_room (frames_of alias m payload) out
            → SplitAnswers t after
        unfolding split_told out_after_split split_of
        split_rest f t after g h =
            let room : first_of (split_tests l m payload out) ≡ first_of (room_tests (frames_of alias m payload) out)
            = is_later
            ∙ ap (λ (b : Bool). cond b 16 (first_of (room_tests (split_of l m payload) out))) (ne_eqb (alias_for l m.source) no_alias (λ z. f (e ∙ z)))
            ∙ ap (λ (a : ℕ). first_of (room_tests (frames_of a m payload) out)) (sym e) in (
              g ∙ ap₂ (λ (k a : ℕ). answered (λ x. told (x ∷ [])) (λ x. refused x []) k (length (all_bytes (frames_of a m payload)))) (sym room) e,
              h ∙ ap₂ (λ (k a : ℕ). answered (overwritten out) (λ _. out) k (all_bytes (frames_of a m payload))) (sym room) e,
            )
