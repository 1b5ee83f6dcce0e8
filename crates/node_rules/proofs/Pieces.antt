-- What a board writes is read back, message by message.
use Prim.Native.Nat.{ℕ, zero, suc, ◌+◌, ◌^◌, ◌≤◌, ◌<◌}
use mathlib.Core.Path.{◌≡◌, refl, sym, ap, ap₂, ◌∙◌}
use mathlib.Core.Bool.{Bool, true, false, cond, not, ◌&&◌}
use mathlib.Core.List.{List, [], ◌∷◌, ◌++◌}
use native.Mathlib.Nat.{le_refl, mod-eq_of_lt, le_of_suc-le-suc, not-suc-le-zero}
use native.Mathlib.Omega.{arith}
use borrow.Author.Tests.{ne_eqb, eqb-true, ltb-true, leb-false, not-true}
use lib.Dec.{eqb, leb, ltb}
use lib.ListN.{length, take, drop, length-append}
use lib.Seq.{take_at, drop_at, take-append-le}
use Rattle.std.specs.Prelude.{Ok}
use Rattle.numbers.specs.Numbers.{number_in, bytes_of}
use Rattle.numbers.proofs.Laws.{bytes_length, number_of_bytes}
use Rattle.basics.proofs.Bools.{both, neither}
use Rattle.message.specs.declared.Kind.TheVariants.{EventReport, ConsumerIdentified, ProducerIdentified}
use Rattle.message.specs.declared.Message.{Message}
use Rattle.message.specs.Mti.{addressed, carries_event, barred, content_at, same_kind, kind_of, is_restart, meaning_of}
use Rattle.message.specs.Messages.{bad_node, Below, message_bytes, content_tests}
use Rattle.basics.specs.Refusals.{first_of, Told, told, told_of}
use Rattle.message.specs.Reading.{fields_in, mti_in, message_in, read_told, read_of}
use Rattle.message.specs.Writing.{out_after}
use Rattle.message.proofs.Exactly.{read_accepted, accepted_leaves}
use Rattle.message.proofs.Laws.{Placed, nodes_good, content_good, source_any, source_same}
use Rattle.message.proofs.RoundTrips.{write_then_read}
use Rattle.message.proofs.Tellings.{read_told_lem}
use Rattle.message.proofs.Writings.{message_length_lem, write_done}
use Rattle.message.specs.Saying.{producer}
use Rattle.node_rules.specs.Boards.{valid, invalid}
use Rattle.node_rules.specs.Sending.{complete_by, with_event, content_of, whole_bytes, Plain, all_bytes, identified_mti}
use Rattle.node_rules.specs.Histories.{first_end, messages_up_to, messages_in}

-- A message that is read from its bytes, and known to end where they do, whatever follows.
pub record Readable (m : Message) : Type 0 where
  pub back : read_told (whole_bytes m) ≡ told (m ∷ [])
  pub ends : first_end (whole_bytes m) ≡ length (whole_bytes m)
  pub long : 2 ≤ length (whole_bytes m)

-- ---- several messages

module _ (m : Message) (r : Readable m) (rest : List ℕ) where
  same_mti : mti_in (whole_bytes m ++ rest) ≡ mti_in (whole_bytes m)
  same_mti = ap number_in (take-append-le 2 (whole_bytes m) rest r.long)

  first_ends : first_end (whole_bytes m ++ rest) ≡ length (whole_bytes m)
  first_ends = ap (λ (k : ℕ). content_at k + (meaning_of k).least) same_mti ∙ r.ends

  first_piece : take (first_end (whole_bytes m ++ rest)) (whole_bytes m ++ rest) ≡ whole_bytes m
  first_piece = take_at (whole_bytes m) rest (first_end (whole_bytes m ++ rest)) (sym first_ends)

  first_rest : drop (first_end (whole_bytes m ++ rest)) (whole_bytes m ++ rest) ≡ rest
  first_rest = drop_at (whole_bytes m) rest (first_end (whole_bytes m ++ rest)) (sym first_ends)

pub data AllReadable : List Message → Type 0 where
  none : AllReadable []
  also : {m : Message} {ms : List Message} → Readable m → AllReadable ms → AllReadable (m ∷ ms)

read_all : (n : ℕ) (ms : List Message) → AllReadable ms → length ms ≤ n → messages_up_to n (all_bytes ms) ≡ ms
unfolding messages_up_to
read_all zero [] none h = refl
read_all (suc n) [] none h = refl
read_all zero (m ∷ ms) r h = absurd (not-suc-le-zero h)
read_all (suc n) (m ∷ ms) (also r rs) h =
    let s = whole_bytes m ++ all_bytes ms in
    let some : length s ≡ 0 → ⊥ = λ z. omega (arith, z, length-append (whole_bytes m) (all_bytes ms), r.long) in
    ap (λ (t : Bool). cond t [] ((read_told (take (first_end s) s)).value ++ messages_up_to n (drop (first_end s) s))) (ne_eqb (length s) 0 some)
    ∙ ap₂ (λ (p q : List ℕ). (read_told p).value ++ messages_up_to n q) (first_piece m r (all_bytes ms)) (first_rest m r (all_bytes ms))
    ∙ ap (λ (x : List Message). x ++ messages_up_to n (all_bytes ms)) (ap (λ (x : Told (List Message)). x.value) r.back)
    ∙ ap (λ (x : List Message). m ∷ x) (read_all n ms rs (le_of_suc-le-suc h))

fewer : (ms : List Message) → AllReadable ms → length ms ≤ length (all_bytes ms)
fewer [] none = le_refl 0
fewer (m ∷ ms) (also r rs) = omega (arith, fewer ms rs, length-append (whole_bytes m) (all_bytes ms), r.long)

-- What stands in the output is exactly what was sent.
pub messages_back : (ms : List Message) → AllReadable ms → messages_in (all_bytes ms) ≡ ms
messages_back ms rs = read_all (length (all_bytes ms)) ms rs (fewer ms rs)

-- ---- the messages of a board

mti_of_lem : (s : List ℕ) → (message_in s).mti ≡ mti_in s
unfolding fields_in
mti_of_lem s = refl

-- A message that passes the tests of writing.
readable : (m : Message) → m.mti < 2 ^ 16 → Below (2 ^ 64) m.event → barred m.mti ≡ false → first_of (content_tests m (content_of m)) ≡ 0
    → content_at m.mti + (meaning_of m.mti).least ≡ length (whole_bytes m) → 2 ≤ length (whole_bytes m) → Readable m
readable m small below free good ends long =
    let s = whole_bytes m in
    let done = write_done m (content_of m) s free good (le_refl (length s)) in
    let written = sym done.0 in
    let bytes : take (length s) (out_after m (content_of m) s) ≡ s
    = ap (take (length s)) (accepted_leaves m (content_of m) s (length s) written) ∙ take_at s (drop (length s) s) (length s) refl in
    let back : read_of s ≡ Ok m = ap read_of (sym bytes) ∙ (write_then_read m (content_of m) s (length s) small below written).0 in
    let mti : m.mti ≡ mti_in s = ap (λ (x : Message). x.mti) ((read_accepted s m).0 back).1 ∙ mti_of_lem s in
    record {
      back = sym (read_told_lem s) ∙ ap told_of back;
      ends = ap (λ (k : ℕ). content_at k + (meaning_of k).least) (sym mti) ∙ ends;
      long = long;
    }

-- A Plain MTI's message: 16 bytes, and no content.
module _ {k : ℕ} (p : Plain k) (id e : ℕ) where
  abbrev m : Message
  m = with_event k id e

  plain_placed : Placed m
  plain_placed = record { destination = p.global; event = ap not p.event }

  plain_content : content_of m ≡ []
  plain_content = ap (λ (t : Bool). cond t (bytes_of 6 id) []) p.other

  at_16 : content_at k ≡ 16
  at_16 = rw (p.global, p.event)

  pub plain_length : length (message_bytes m []) ≡ 16
  plain_length = message_length_lem m [] plain_placed ∙ ap (λ (n : ℕ). n + 0) at_16

  pub plain_whole : whole_bytes m ≡ message_bytes m []
  plain_whole = ap (message_bytes m) plain_content

  pub plain_tests : bad_node id ≡ false → first_of (content_tests m []) ≡ 0
  plain_tests node = rw (
    nodes_good m node refl,
    content_good m [] plain_placed (ap (ltb 0) p.least) (ap (λ (n : ℕ). ltb n 0) p.most),
    source_any m [] p.other,
  )

  -- With a good Node ID and a 64-bit event it is read back.
  pub plain_readable : bad_node id ≡ false → e < 2 ^ 64 → Readable m
  plain_readable node fit =
      let whole = ap length plain_whole ∙ plain_length in
      readable m p.small fit p.free
      (ap (λ (c : List ℕ). first_of (content_tests m c)) plain_content ∙ plain_tests node)
      (ap₂ (λ (a b : ℕ). a + b) at_16 p.least ∙ sym whole)
      (omega (arith, whole))

-- Initialization Complete.
node_below : (id : ℕ) → bad_node id ≡ false → id < 2 ^ 48
node_below id h = leb-false (2 ^ 48) id (neither (eqb id 0) (leb (2 ^ 48) id) h).1

module _ (id : ℕ) (node : bad_node id ≡ false) where
  abbrev c : Message
  c = complete_by id

  complete_placed : Placed c
  complete_placed = record { destination = refl; event = refl }

  pub complete_content : content_of c ≡ bytes_of 6 id
  unfolding meaning_of
  complete_content = refl

  six : length (bytes_of 6 id) ≡ 6
  six = bytes_length 6 id

  pub complete_tests : first_of (content_tests c (bytes_of 6 id)) ≡ 0
  unfolding meaning_of
  complete_tests = rw (
    nodes_good c node refl,
    content_good c (bytes_of 6 id) complete_placed (ap (λ (n : ℕ). ltb n 6) six) (ap (ltb 6) six),
    source_same c (bytes_of 6 id) (number_of_bytes 6 id ∙ mod-eq_of_lt (node_below id node)),
  )

  pub complete_length : length (message_bytes c (bytes_of 6 id)) ≡ 14
  complete_length = message_length_lem c (bytes_of 6 id) complete_placed ∙ ap (λ (n : ℕ). 8 + n) six

  pub complete_readable : Readable c
  unfolding meaning_of
  complete_readable = readable c (omega arith) tt refl complete_tests (sym complete_length) (omega (arith, complete_length))

-- ---- which MTIs

-- The same as a test, which computes on a number.
abbrev plain : ℕ → Bool
plain k =
    ltb k (2 ^ 16)
    && (not (barred k)
    && (not (addressed k)
    && (carries_event k && (eqb (meaning_of k).least 0 && (eqb (meaning_of k).most 0 && not (is_restart (kind_of k)))))))

plain_tested : (k : ℕ) → plain k ≡ true → Plain k
plain_tested k h =
    let a = both _ _ h in
    let b = both _ _ a.1 in
    let c = both _ _ b.1 in
    let d = both _ _ c.1 in
    let e = both _ _ d.1 in
    let f = both _ _ e.1 in
    record {
      small = ltb-true k (2 ^ 16) a.0;
      free = not-true (barred k) b.0;
      global = not-true (addressed k) c.0;
      event = d.0;
      least = eqb-true (meaning_of k).least 0 e.0;
      most = eqb-true (meaning_of k).most 0 f.0;
      other = not-true (is_restart (kind_of k)) f.1;
    }

pub report_plain : Plain 0x05B4
unfolding meaning_of
report_plain = plain_tested 0x05B4 refl

-- What holds of the six MTIs, by whether they are a producer's, holds of every slot's.
six_mtis : (P : Bool → ℕ → Type 0) → P true 0x0544 → P true 0x0545 → P true 0x0547 → P false 0x04C4 → P false 0x04C5 → P false 0x04C7
    → (role status : ℕ) → P (eqb role producer) (identified_mti role status)
unfolding identified_mti
six_mtis P pv pi pu cv ci cu role status = go (eqb role producer) (eqb status valid) (eqb status invalid)
  where
    go : (r v i : Bool) → P r (cond r (cond v 0x0544 (cond i 0x0545 0x0547)) (cond v 0x04C4 (cond i 0x04C5 0x04C7)))
    go true true i = pv
    go true false true = pi
    go true false false = pu
    go false true i = cv
    go false false true = ci
    go false false false = cu

pub identified_plain : (role status : ℕ) → Plain (identified_mti role status)
unfolding meaning_of
identified_plain =
    six_mtis (λ _ k. Plain k)
    (plain_tested 0x0544 refl)
    (plain_tested 0x0545 refl)
    (plain_tested 0x0547 refl)
    (plain_tested 0x04C4 refl)
    (plain_tested 0x04C5 refl)
    (plain_tested 0x04C7 refl)

pub producer_kind : (role status : ℕ) → same_kind ProducerIdentified (kind_of (identified_mti role status)) ≡ eqb role producer
unfolding meaning_of
producer_kind = six_mtis (λ r k. same_kind ProducerIdentified (kind_of k) ≡ r) refl refl refl refl refl refl

pub consumer_kind : (role status : ℕ) → same_kind ConsumerIdentified (kind_of (identified_mti role status)) ≡ not (eqb role producer)
unfolding meaning_of
consumer_kind = six_mtis (λ r k. same_kind ConsumerIdentified (kind_of k) ≡ not r) refl refl refl refl refl refl

pub no_report_kind : (role status : ℕ) → same_kind EventReport (kind_of (identified_mti role status)) ≡ false
unfolding meaning_of
no_report_kind = six_mtis (λ _ k. same_kind EventReport (kind_of k) ≡ false) refl refl refl refl refl refl
