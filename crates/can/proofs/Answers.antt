-- What each part answers, refusal by refusal.
use Prim.Native.Nat.{ℕ, suc, ◌+◌, ◌/◌, ◌≤◌, ◌<◌}
use mathlib.Core.Path.{◌≡◌, refl, sym, ap, ap₂, subst, ◌∙◌}
use Rattle.std.proofs.Common.{◌≢◌}
use mathlib.Core.Bool.{Bool, true, false, not, ◌&&◌, false≢true}
use mathlib.Core.List.{List, [], ◌∷◌, ◌++◌, map}
use native.Mathlib.Omega.{arith}
use borrow.Author.Tests.{eq-eqb, ne_eqb, eqb-true, lt-leb, le-ltb, lt-ltb, ltb-false}
use lib.Dec.{eqb, leb, ltb}
use lib.ListN.{length, take, drop, get_or, set, length-append, length-drop}
use Rattle.std.specs.Prelude.{remove, Option, Some, None, Result, Ok, Err, MatchOption, IfSome, slice_get, unwrap_or}
use Rattle.std.specs.Option.{ok_or}
use Rattle.std.specs.Result.{IsErrAnd}
use Rattle.std.proofs.lemmas.Result.{err_from_is_err_and}
use Rattle.std.proofs.lemmas.Option.{MatchOption-at_some, unwrap_or-slice_get}
use lib.Seq.{take_all, length-take-le}
use Rattle.numbers.specs.Numbers.{number_in}
use Rattle.basics.specs.declared.Refusal.{Refusal}
use Rattle.basics.specs.declared.Refusal.TheVariants.{NotListed}
use Rattle.basics.specs.Lists.{any, first_or}
use Rattle.can_rules.specs.declared.Frame.{Frame}
use Rattle.can_rules.specs.declared.Part.{Part}
use Rattle.can_rules.specs.declared.Part.TheVariants.{Whole, Start, Middle, Last, OtherHeader}
use Rattle.can_rules.specs.Frames.{headed, header_of, alias_in, mti_of, part_in, bytes_in}
use Rattle.can_rules.specs.Aliases.{Aliases, nobody, bad_aliases, place_in, node_for}
use Rattle.can_rules.specs.Joining.{Begun, begun, outcome, report, has_begun, of_sender, by, dropped, longer, is_other, wrong_length, continues, starts, overflows, finished, settled, sender_of, bad_joining, too_long, join}
use Rattle.can_aliases.proofs.Lists.{somebody}
use Rattle.can.specs.declared.Gathered.{Gathered}
use Rattle.can.specs.declared.Joining.{Joining}
use Rattle.can.specs.declared.parts.Report.{Report}
use Rattle.can.specs.declared.state.Place.{Place}
use Rattle.can.specs.States.{place_number, payload_of, begun_of, gathered_at, state_of, with_more, handed_in, silence, Seen, seen_of, seen_left, part_seen, Only}
use Rattle.can.proofs.Places.{state_length, state_at, payload_length, none_long, few_senders}
use Rattle.can.proofs.Missing.{some_from_ok, none_from_err}
use Rattle.can.proofs.Only.{found, within, passes, left_out, kept, any_with, changed, clear}

-- ---- the part of a header

headed_by : (h : ℕ) (part : Part) (t : Bool) → eqb (h / 0x1000) (0x19000 + mti_of part) ≡ t → headed h part ≡ t
headed_by h part true e = eq-eqb h (header_of part (alias_in h)) (omega (arith, eqb-true (h / 0x1000) (0x19000 + mti_of part) e))
headed_by h part false e = ne_eqb h (header_of part (alias_in h)) (λ g. false≢true (sym e ∙ eq-eqb (h / 0x1000) (0x19000 + mti_of part) (omega (arith, g))))

module _ (h : ℕ) where
  abbrev front : ℕ
  front = h / 0x1000

  no : (part : Part) → (front ≡ 0x19000 + mti_of part → ⊥) → headed h part ≡ false
  no part f = headed_by h part false (ne_eqb front (0x19000 + mti_of part) f)

  yes : (part : Part) → front ≡ 0x19000 + mti_of part → headed h part ≡ true
  yes part e = headed_by h part true (eq-eqb front (0x19000 + mti_of part) e)

  pub is_part : (part : Part) → front ≡ 0x19000 + mti_of part → is_other part ≡ false → part ≡ part_in h
  unfolding part_in
  is_part Whole e o = rw (yes Whole e)
  is_part Start e o = rw (no Whole (λ a. omega arith), yes Start e)
  is_part Middle e o = rw (no Whole (λ a. omega arith), no Start (λ a. omega arith), yes Middle e)
  is_part Last e o = rw (no Whole (λ a. omega arith), no Start (λ a. omega arith), no Middle (λ a. omega arith), yes Last e)
  is_part OtherHeader e o = absurd (false≢true (sym o))

  pub is_other_lem : (front ≡ 0x195B4 → ⊥) → (front ≡ 0x19F16 → ⊥) → (front ≡ 0x19F15 → ⊥) → (front ≡ 0x19F14 → ⊥) → OtherHeader ≡ part_in h
  unfolding part_in
  is_other_lem a b c d = rw (no Whole a, no Start b, no Middle c, no Last d)

-- ---- refusals, of any part

module _ (j : Joining) (n : ℕ) (f : Frame) (part : Part) (named : n ≡ 0 → ⊥) (sized : wrong_length part f.length ≡ false) where
  pub twenty : starts part ≡ true → continues part ≡ false → has_begun n (state_of j) ≡ false → leb 2 (length (state_of j)) ≡ true
      → seen_of (outcome 20 [] (state_of j)) ≡ part_seen j n f part
  twenty s c e l = rw (ne_eqb n 0 named, sized, c, s, e, l)

  pub eighteen : continues part ≡ true → starts part ≡ false → has_begun n (state_of j) ≡ true → any (overflows n (bytes_in f)) (state_of j) ≡ true
      → seen_of (outcome 18 [] (dropped n (state_of j))) ≡ part_seen j n f part
  eighteen c s e o = rw (ne_eqb n 0 named, sized, c, s, e, o)

  pub accepted : (continues part && not (has_begun n (state_of j))) ≡ false
      → (starts part && (not (has_begun n (state_of j)) && leb 2 (length (state_of j)))) ≡ false
      → (continues part && any (overflows n (bytes_in f)) (state_of j)) ≡ false
      → seen_of (settled (state_of j) n (bytes_in f) 0 part) ≡ part_seen j n f part
  accepted a b c = rw (ne_eqb n 0 named, sized, a, b, c)

-- ---- what is found of the sender's

module _ (j : Joining) (n : ℕ) (good : bad_joining (state_of j) ≡ false) where
  module _ (i : ℕ) (own : Only (of_sender n) (state_of j) i) where
    pub in_use : i < j.count
    in_use = let inside = within (of_sender n) own in let size = state_length j in omega arith

    abbrev held : Gathered
    held = gathered_at j i

    at_place : get_or (state_of j) i (begun 0 0 []) ≡ begun_of held
    at_place = state_at j (begun 0 0 []) i in_use

    pub its_sender : held.sender ≡ n
    its_sender = eqb-true held.sender n (ap (of_sender n) (sym at_place) ∙ passes (of_sender n) (begun 0 0 []) own)

    pub short_enough : held.length ≤ 256
    short_enough =
        let short = ap (ltb 256) (sym (payload_length held)) ∙ ap too_long (sym at_place) ∙ clear (of_sender n) too_long (begun 0 0 []) own (none_long j good) in
        ltb-false 256 held.length short

    pub dropped_there : dropped n (state_of j) ≡ remove (state_of j) i
    dropped_there = left_out (of_sender n) own

    pub overflow_there : (more : ℕ) → any (λ b. of_sender n b && ltb 256 (length b.so_far + more)) (state_of j) ≡ ltb 256 (held.length + more)
    overflow_there more =
        any_with (of_sender n) (λ b. ltb 256 (length b.so_far + more)) (begun 0 0 []) own
        ∙ ap (λ b. ltb 256 (length b.so_far + more)) at_place
        ∙ ap (λ l. ltb 256 (l + more)) (payload_length held)

    pub longer_there : (bytes : List ℕ) → map (longer n bytes) (state_of j) ≡ set (state_of j) i (with_more held bytes)
    longer_there bytes =
        changed (of_sender n) (longer n bytes) (λ b e. rw e) (begun 0 0 []) own
        ∙ ap (λ b. set (state_of j) i (longer n bytes b)) at_place
        ∙ ap (set (state_of j) i) (rw (eq-eqb held.sender n its_sender))

    pub handed_there : (bytes : List ℕ) → map (finished bytes) (by n (state_of j)) ≡ report 0x0F14 held.sender held.event (payload_of held ++ bytes) ∷ []
    handed_there bytes = ap (map (finished bytes)) (kept (of_sender n) (begun 0 0 []) own) ∙ ap (λ b. finished bytes b ∷ []) at_place

-- ---- a last frame's length

pub right_length : (k : ℕ) → (k ≡ 0 → ⊥) → k ≤ 8 → wrong_length Last k ≡ false
right_length k some most = rw (ne_eqb k 0 some, le-ltb 8 k most)

-- The place that was asked for.
module _ (j : Joining) (n : ℕ) (good : bad_joining (state_of j) ≡ false) {o : Option Place}
    (asked : MatchOption o (has_begun n (state_of j) ≡ false) (λ q. Only (of_sender n) (state_of j) (place_number q))) {p : Place} (given : o ≡ Some p) where
  pub its_place : Only (of_sender n) (state_of j) (place_number p)
  its_place = MatchOption-at_some _ (λ q. Only (of_sender n) (state_of j) (place_number q)) p given asked

  pub usable : (place_number p < j.count) × (j.count ≤ 2)
  usable = (in_use j n good (place_number p) its_place, few_senders j good)

  pub short_there : (g : Gathered) → g ≡ gathered_at j (place_number p) → g.length ≤ 256
  short_there g e = let short = short_enough j n good (place_number p) its_place in let same = ap (λ x. x.length) e in omega arith

-- ---- room for one more

module _ (j : Joining) (n : ℕ) where
  pub its_own_room : (i : ℕ) → Only (of_sender n) (state_of j) i → (not (has_begun n (state_of j)) && leb 2 (length (state_of j))) ≡ false
  its_own_room i own = ap (λ t. not t && leb 2 (length (state_of j))) (found (of_sender n) own)

  pub free_room : j.count ≤ 2 → (j.count ≡ 2 → ⊥) → (not (has_begun n (state_of j)) && leb 2 (length (state_of j))) ≡ false
  free_room few other = go (not (has_begun n (state_of j)))
    where
      go : (t : Bool) → (t && leb 2 (length (state_of j))) ≡ false
      go true = let size = state_length j in lt-leb 2 (length (state_of j)) (omega arith)
      go false = refl

  pub one_fewer : (k : Joining) (i : ℕ) → i < j.count → j.count ≤ 2 → state_of k ≡ remove (state_of j) i → k.count < 2
  one_fewer k i inside few e =
      let size = state_length j in
      let left = state_length k in
      let same = ap length e in
      let front = length-take-le i (state_of j) in
      let back = length-drop (suc i) (state_of j) in
      let all = length-append (take i (state_of j)) (drop (suc i) (state_of j)) in
      omega (arith, same, all, front (omega arith), back)

-- ---- accepted, part by part

handed_as : (mti : ℕ) (g : Gathered) (b : Begun) → begun_of g ≡ b → handed_in mti g ≡ report mti b.sender b.event b.so_far
handed_as mti g b e = ap (λ (x : Begun). report mti x.sender x.event x.so_far) e

module _ (j : Joining) (n : ℕ) (f : Frame) (named : n ≡ 0 → ⊥) (eight : length f.bytes ≡ 8) where
  pub eight_used : f.length ≡ 8 → bytes_in f ≡ f.bytes
  eight_used e = ap (λ (k : ℕ). take k f.bytes) e ∙ take_all 8 f.bytes (omega (arith, eight))

  pub middle_size : f.length ≡ 8 → length (bytes_in f) ≡ 8
  middle_size l = ap length (eight_used l) ∙ eight

  pub last_size : f.length ≤ 8 → length (bytes_in f) ≡ f.length
  last_size most = length-take-le f.length f.bytes (omega (arith, eight, most))

  pub whole_done : f.length ≡ 8 → (g : Gathered) (e : ℕ) → begun_of g ≡ begun n e [] → e ≡ number_in f.bytes
      → record { refusal = 0; handed = handed_in 0x05B4 g; next = state_of j } ≡ part_seen j n f Whole
  whole_done l g e b v =
      (λ i. record { refusal = 0; handed = (handed_as 0x05B4 g (begun n e []) b ∙ ap (λ (x : ℕ). report 0x05B4 n x []) (v ∙ sym (ap number_in (eight_used l)))) i; next = state_of j })
      ∙ accepted j n f Whole named (rw l) refl refl refl

  -- A start finds its sender's dropped, and room for one more.
  pub start_done : f.length ≡ 8 → (k next : Joining) (e : ℕ) → state_of k ≡ dropped n (state_of j) → (not (has_begun n (state_of j)) && leb 2 (length (state_of j))) ≡ false
      → state_of next ≡ state_of k ++ (begun n e [] ∷ []) → e ≡ number_in f.bytes
      → seen_of (outcome 0 [] (state_of next)) ≡ part_seen j n f Start
  start_done l k next e d room b v =
      ap (λ (s : List Begun). seen_of (outcome 0 [] s))
      (b ∙ ap₂ (λ (s : List Begun) (x : ℕ). s ++ (begun n x [] ∷ [])) d (v ∙ sym (ap number_in (eight_used l))))
      ∙ accepted j n f Start named (rw l) refl room refl

  module _ (good : bad_joining (state_of j) ≡ false) (i : ℕ) (own : Only (of_sender n) (state_of j) i) where
    there : has_begun n (state_of j) ≡ true
    there = found (of_sender n) own

    over : (bytes : List ℕ) (size : ℕ) (t : Bool) → length bytes ≡ size → ltb 256 ((gathered_at j i).length + size) ≡ t → any (overflows n bytes) (state_of j) ≡ t
    over bytes size t e o = overflow_there j n good i own (length bytes) ∙ ap (λ k. ltb 256 ((gathered_at j i).length + k)) e ∙ o

    -- Too many bytes drop what is begun.
    pub part_dropped : (part : Part) → wrong_length part f.length ≡ false → continues part ≡ true → starts part ≡ false → (size : ℕ) → length (bytes_in f) ≡ size
        → 256 < (gathered_at j i).length + size → (left : Joining) → state_of left ≡ remove (state_of j) i → seen_of (outcome 18 [] (state_of left)) ≡ part_seen j n f part
    part_dropped part sized c s size e o left d =
        ap (λ (s : List Begun). seen_of (outcome 18 [] s)) (d ∙ sym (dropped_there j n good i own))
        ∙ eighteen j n f part named sized c s there (over (bytes_in f) size true e (lt-ltb 256 ((gathered_at j i).length + size) o))

    pub middle_done : f.length ≡ 8 → (next : Joining) → (gathered_at j i).length + 8 ≤ 256 → state_of next ≡ set (state_of j) i (with_more (gathered_at j i) f.bytes)
        → seen_of (outcome 0 [] (state_of next)) ≡ part_seen j n f Middle
    middle_done l next fits g =
        ap (λ (s : List Begun). seen_of (outcome 0 [] s))
        (g ∙ ap (λ b. set (state_of j) i (with_more (gathered_at j i) b)) (sym (eight_used l)) ∙ sym (longer_there j n good i own (bytes_in f)))
        ∙ accepted j n f Middle named (rw l) (ap not there) refl (over (bytes_in f) 8 false (middle_size l) (le-ltb 256 ((gathered_at j i).length + 8) fits))

    pub last_done : (some : f.length ≡ 0 → ⊥) (most : f.length ≤ 8) → (gathered_at j i).length + f.length ≤ 256 → (g : Gathered) (left : Joining)
        → begun_of g ≡ with_more (gathered_at j i) (bytes_in f) → state_of left ≡ remove (state_of j) i
        → record { refusal = 0; handed = handed_in 0x0F14 g; next = state_of left } ≡ part_seen j n f Last
    last_done some most fits g left e d =
        (λ k. record {
          refusal = 0;
          handed = (handed_as 0x0F14 g (with_more (gathered_at j i) (bytes_in f)) e ∙ sym (ap (first_or silence (λ h. h)) (handed_there j n good i own (bytes_in f)))) k;
          next = (d ∙ sym (dropped_there j n good i own)) k;
        })
        ∙ accepted j n f Last named (right_length f.length some most) (ap not there) refl (over (bytes_in f) f.length false (last_size most) (le-ltb 256 ((gathered_at j i).length + f.length) fits))

-- ---- any frame, in any list and state

module _ (l : Aliases) (j : Joining) (f : Frame) where
  abbrev Answered : Seen → Type 0
  Answered s = s ≡ seen_of (join l (state_of j) f)

  pub bad_list : bad_aliases l ≡ true → Answered (seen_of (outcome 7 [] (state_of j)))
  unfolding join
  bad_list e = rw e

  pub bad_state : bad_aliases l ≡ false → bad_joining (state_of j) ≡ true → Answered (seen_of (outcome 7 [] (state_of j)))
  unfolding join
  bad_state e g = rw (e, g)

  module _ (e : bad_aliases l ≡ false) (g : bad_joining (state_of j) ≡ false) where
    pub other_header : part_in f.header ≡ OtherHeader → Answered (seen_of (outcome 29 [] (state_of j)))
    unfolding join
    other_header o = rw (e, g, o)

    -- Who sent it, by what is found for its alias.
    module _ (sent : Option ℕ) (at : sent ≡ slice_get l.nodes (place_in l.aliases (alias_in f.header))) where
      sender_sent : sender_of l f ≡ unwrap_or sent nobody
      unfolding sender_of node_for
      sender_sent = sym (ap (λ o. unwrap_or o nobody) at ∙ unwrap_or-slice_get l.nodes (place_in l.aliases (alias_in f.header)) nobody)

      pub not_nobody : (n : ℕ) → ok_or sent NotListed ≡ Ok n → n ≡ nobody → ⊥
      not_nobody n ok = subst (λ o. IfSome o (λ m. m ≢ nobody)) (sym at ∙ some_from_ok sent NotListed n ok) (somebody l (place_in l.aliases (alias_in f.header)) e)

      from_nobody : sent ≡ None → is_other (part_in f.header) ≡ false → Answered (seen_of (outcome 16 [] (state_of j)))
      unfolding join
      from_nobody none o = rw (e, g, o, sender_sent ∙ ap (λ x. unwrap_or x nobody) none)

      pub not_listed : (k : Refusal) (r : Result (Option Report) Refusal) → ok_or sent NotListed ≡ Err k → r ≡ Err k → is_other (part_in f.header) ≡ false → Answered (seen_left r j)
      not_listed k r err exit o =
          let p = none_from_err sent NotListed k err in
          ap (λ x. seen_left x j) (exit ∙ ap Err p.1) ∙ from_nobody p.0 o

      pub by_part : (n : ℕ) (part : Part) → ok_or sent NotListed ≡ Ok n → part ≡ part_in f.header → is_other part ≡ false → (s : Seen) → s ≡ part_seen j n f part → Answered s
      unfolding join
      by_part n part ok h o s d = d ∙ rw (e, g, sender_sent ∙ ap (λ x. unwrap_or x nobody) (some_from_ok sent NotListed n ok), ← h, o)

-- The same as the code goes through it: the tests passed, what was found and what it is refused with.
module _ (l : Aliases) (j : Joining) (f : Frame) {sent : Option ℕ} {o : Result ℕ Refusal} (list : false ≡ bad_aliases l) (state : false ≡ bad_joining (state_of j))
    (at : sent ≡ slice_get l.nodes (place_in l.aliases (alias_in f.header))) (sender : o ≡ ok_or sent NotListed) where
  pub sender_named : {n : ℕ} → o ≡ Ok n → n ≢ nobody
  sender_named {n} ok = not_nobody l j f (sym list) (sym state) sent at n (sym sender ∙ ok)

  pub sender_unlisted : {k : Refusal} (r : Result (Option Report) Refusal) {part : Part} → o ≡ Err k → IsErrAnd r (λ d. d ≡ k) → part ≡ part_in f.header → is_other part ≡ false
      → seen_left r j ≡ seen_of (join l (state_of j) f)
  sender_unlisted {k} r err exit here known =
      let p = err_from_is_err_and r exit in
      not_listed l j f (sym list) (sym state) sent at k r (sym sender ∙ err) (p.1 ∙ ap Err p.2) (ap is_other (sym here) ∙ known)

  pub sender_done : {n : ℕ} {part : Part} {s : Seen} → o ≡ Ok n → part ≡ part_in f.header → is_other part ≡ false → s ≡ part_seen j n f part → s ≡ seen_of (join l (state_of j) f)
  sender_done {n} {part} {s} ok here known done = by_part l j f (sym list) (sym state) sent at n part (sym sender ∙ ok) here known s done
