-- The ways in which a call can go, and what it writes.
use Prim.Native.Nat.{ℕ, zero, suc, ◌^◌, ◌<◌}
use mathlib.Core.Path.{◌≡◌, refl, sym, ap, ◌∙◌}
use mathlib.Core.Bool.{Bool, true, false, true≢false}
use mathlib.Core.List.{List, [], ◌∷◌, ◌++◌, append-nil}
use native.Mathlib.Omega.{arith}
use borrow.Author.Tests.{eqb-true, not-false}
use lib.Dec.{eqb, leb, ltb}
use lib.ListN.{length, drop}
use lib.Seq.{take-append_seam}
use Rattle.message.specs.declared.Message.{Message}
use Rattle.message.specs.Messages.{bad_node}
use Rattle.message.specs.Reading.{message_in}
use Rattle.basics.specs.Refusals.{Test, numbered, first_of, answered, None}
use Rattle.basics.proofs.Bools.{neither}
use Rattle.basics.proofs.Firsts.{first_none, first_passed, rest_passed}
use Rattle.node_rules.specs.declared.Call.{Call}
use Rattle.node_rules.specs.declared.Call.TheVariants.{Initialise, Announce, Produce, SetStatus, Receive}
use Rattle.node_rules.specs.Boards.{Board, advertised, initialized, unknown, count, role_of, event_of, mark_of}
use Rattle.message.specs.Saying.{producer}
use Rattle.node_rules.specs.Sending.{complete_by, report, all_bytes, identifying}
use Rattle.node_rules.specs.Hearing.{heard_by, chosen, answering}
use Rattle.node_rules.specs.Calls.{Outcome, accepting, refusing, no_match, restarted, identifying_all, with_status, heard_in, matching, accepted, board_tests, slot_tests, tests_of, outcome}
use Rattle.node_rules.specs.Histories.{Made, given_by, done_by, done, messages_in, is_initialise}
use Rattle.node_rules.proofs.Pieces.{AllReadable, messages_back, plain_readable, complete_readable, report_plain, identified_plain}
use Rattle.node_rules.proofs.Pieces.AllReadable.{none, also}

-- A call is refused; or it initialises, identifies some slots, reports an Advertised producer slot, or sets one of the three statuses.
pub data Happened (b : Board) (c : Call) : Outcome → Type 0 where
  refused : (n : ℕ) → (n ≡ 0 → ⊥) → Happened b c (refusing b n)
  restarts : is_initialise c ≡ true → bad_node b.node.id ≡ false → Happened b c (accepting (complete_by b.node.id ∷ []) no_match (restarted b))
  identifies : (js : List ℕ) (matches : ℕ → Bool) → is_initialise c ≡ false → bad_node b.node.id ≡ false
      → (eqb b.node.state initialized ≡ false → js ≡ []) → Happened b c (accepting (identifying b js) matches (identifying_all b js))
  reports : (i : ℕ) → is_initialise c ≡ false → bad_node b.node.id ≡ false → eqb b.node.state initialized ≡ true
      → role_of b.slots i ≡ producer → mark_of b.slots i ≡ advertised → Happened b c (accepting (report b i ∷ []) no_match b)
  sets : (i status : ℕ) → is_initialise c ≡ false → ltb unknown status ≡ false → Happened b c (accepting [] no_match (with_status b i status))

-- ---- each call is one of them

node_good : (b : Board) {ts : List Test} → None (board_tests b ++ ts) → bad_node b.node.id ≡ false
node_good b p = first_passed (rest_passed p)

was_initialized : (b : Board) (i : ℕ) {ts : List Test} → None (board_tests b ++ (slot_tests b i ++ ts)) → eqb b.node.state initialized ≡ true
was_initialized b i p = not-false _ (first_passed (rest_passed (rest_passed p)))

nobody_asked : (n : ℕ) → chosen n (λ _. false) ≡ []
unfolding chosen
nobody_asked zero = refl
nobody_asked (suc n) = append-nil (chosen n (λ _. false)) ∙ nobody_asked n

silent : (b : Board) (m : Message) → eqb b.node.state initialized ≡ false → answering b (heard_by b.node m) ≡ []
unfolding answering heard_by
silent b m h = rw h (nobody_asked (count b.slots))

-- Every test was passed.
took_place : (b : Board) (call : Call) (bytes : List ℕ) (room : ℕ) → None (tests_of b call bytes room) → Happened b call (accepted b call bytes)
took_place b Initialise bytes room p = restarts refl (node_good b p)
took_place b (Announce i) bytes room p = identifies (i ∷ []) no_match refl (node_good b p) (λ s. absurd (true≢false (sym (was_initialized b i p) ∙ s)))
took_place b (Produce i) bytes room p =
    let q = rest_passed (rest_passed (rest_passed (rest_passed p))) in
    reports i refl (node_good b p) (was_initialized b i p) (eqb-true _ _ (not-false _ (first_passed q))) (eqb-true _ _ (not-false _ (first_passed (rest_passed q))))
took_place b (SetStatus i status) bytes room p = sets i status refl (neither (leb (count b.slots) i) (ltb unknown status) (first_passed (rest_passed (rest_passed p)))).1
took_place b Receive bytes room p =
    identifies (answering b (heard_in b bytes)) (matching b (heard_in b bytes)) refl (node_good b p) (silent b (message_in bytes))

pub all_numbered : (b : Board) (call : Call) (bytes : List ℕ) (room : ℕ) → numbered (tests_of b call bytes room) ≡ true
all_numbered b Initialise bytes room = refl
all_numbered b (Announce i) bytes room = refl
all_numbered b (Produce i) bytes room = refl
all_numbered b (SetStatus i status) bytes room = refl
all_numbered b Receive bytes room = refl

pub happened : (b : Board) (call : Call) (bytes : List ℕ) (room : ℕ) → Happened b call (outcome b call bytes room)
unfolding outcome
happened b call bytes room = go (first_of (tests_of b call bytes room)) refl
  where
    go : (k : ℕ) → first_of (tests_of b call bytes room) ≡ k → Happened b call (answered (λ o. o) (refusing b) k (accepted b call bytes))
    go zero e = took_place b call bytes room ((first_none (tests_of b call bytes room) (all_numbered b call bytes room)).0 e)
    go (suc k) e = refused (suc k) (λ z. absurd (omega (arith, z)))

-- ---- what was written is what was sent

all_identified : (b : Board) (js : List ℕ) → bad_node b.node.id ≡ false → ((i : ℕ) → event_of b.slots i < 2 ^ 64) → AllReadable (identifying b js)
all_identified b [] h fit = none
all_identified b (j ∷ js) h fit =
    also (plain_readable (identified_plain _ _) b.node.id (event_of b.slots j) h (fit j)) (all_identified b js h fit)

all_readable : {b : Board} {c : Call} {o : Outcome} → ((i : ℕ) → event_of b.slots i < 2 ^ 64) → Happened b c o → AllReadable o.sent
all_readable fit (refused n h) = none
all_readable {b = b} fit (restarts i h) = also (complete_readable b.node.id h) none
all_readable {b = b} fit (identifies js matches i h s) = all_identified b js h fit
all_readable {b = b} fit (reports i f h s r m) = also (plain_readable report_plain b.node.id (event_of b.slots i) h (fit i)) none
all_readable fit (sets i status f l) = none

pub sent_read : (b : Board) (c : Made) {o : Outcome} → ((i : ℕ) → event_of b.slots i < 2 ^ 64) → Happened b c.call o → messages_in (done_by c o).bytes ≡ o.sent
sent_read b c {o = o} fit h =
    let bytes = all_bytes o.sent in
    ap messages_in (take-append_seam bytes (drop (length bytes) c.out)) ∙ messages_back o.sent (all_readable fit h)

-- The bytes that a call gave are read back as exactly the messages that it sent.
pub written_read : (b : Board) (c : Made) → ((i : ℕ) → event_of b.slots i < 2 ^ 64) → messages_in (done b c).bytes ≡ (given_by b c).sent
written_read b c fit = sent_read b c fit (happened b c.call c.bytes (length c.out))
