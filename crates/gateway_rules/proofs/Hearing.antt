-- A history of raw bytes, refused ones among them, leaves what its accepted messages leave.
use Prim.Native.Nat.{ℕ, zero, suc}
use mathlib.Core.Path.{◌≡◌, refl, sym, ap, ap₂, ◌∙◌, subst}
use mathlib.Core.Bool.{Bool, true, false, cond}
use mathlib.Core.List.{List, [], ◌∷◌, ◌++◌}
use borrow.Author.Tests.{ltb-true, ltb-false, le-leb, lt-leb}
use lib.Dec.{leb, ltb}
use Rattle.std.specs.Prelude.{Result, Ok, Err}
use Rattle.message.specs.declared.Message.{Message}
use Rattle.message.specs.Messages.{bad_node, bad_where_present, bad_nodes}
use Rattle.message.specs.Reading.{message_in, read_tests, read_told, read_of}
use Rattle.basics.specs.Refusals.{first_of, answered, Told, told, refused, told_of}
use Rattle.message.proofs.Exactly.{read_accepted}
use Rattle.message.proofs.Tellings.{read_told_lem}
use Rattle.basics.proofs.Firsts.{first_passed, rest_passed}
use Rattle.basics.proofs.Bools.{neither}
use Rattle.gateway_rules.specs.State.{Gate, out_of_bounds}
use Rattle.gateway_rules.specs.Step.{taken, taking, refusing, step_tests, step}
use Rattle.gateway_rules.specs.History.{Entry, after, Heard, heard_at, heard_of, accepted, left_by}
use Rattle.gateway_rules.proofs.Changes.{change_of}
use Rattle.gateway_rules.proofs.Bounds.{Bounded, bounded_in, bounded_taken, same_box}

-- ---- left_by in two parts

pub left_append : (g : Gate) (h k : List Heard) → left_by g (h ++ k) ≡ left_by (left_by g h) k
left_append g [] k = refl
left_append g (s ∷ h) k = left_append (taken g s.port s.message) h k

pub left_box : (g : Gate) (h : List Heard) → ((left_by g h).ports ≡ g.ports) × ((left_by g h).automatic ≡ g.automatic)
left_box g [] = (refl, refl)
left_box g (s ∷ h) =
    let first = same_box (change_of g s.port s.message) in
    let rest = left_box (taken g s.port s.message) h in
    (rest.0 ∙ first.0, rest.1 ∙ first.1)

-- ---- one entry

-- What is heard goes by the number that the step answers: its message for 0, else nothing.
abbrev pub heard_by : Entry → ℕ → List Heard
heard_by e n = heard_at e.port (answered (λ m. told (m ∷ [])) (λ k. refused k []) n (message_in e.bytes))

pub heard_by_number : (g : Gate) (e : Entry) → out_of_bounds g ≡ false → heard_of g.ports e ≡ heard_by e (first_of (step_tests g e.port e.bytes))
unfolding read_told
heard_by_number g e i = rw i (go (ltb e.port g.ports) refl)
  where
    go : (t : Bool) → ltb e.port g.ports ≡ t
        → cond t (heard_by e (first_of (read_tests e.bytes))) [] ≡ heard_by e (cond (leb g.ports e.port) 8 (first_of (read_tests e.bytes)))
    go true f = rw (lt-leb g.ports e.port (ltb-true e.port g.ports f))
    go false f = rw (le-leb g.ports e.port (ltb-false e.port g.ports f))

-- A step of a state in bounds takes what is heard, and nothing else.
pub step_heard : (g : Gate) (e : Entry) → out_of_bounds g ≡ false → (step g e.port e.bytes).next ≡ left_by g (heard_of g.ports e)
unfolding step
step_heard g e i = go (first_of (step_tests g e.port e.bytes)) ∙ ap (left_by g) (sym (heard_by_number g e i))
  where
    go : (n : ℕ) → (answered (taking g e.port) (refusing g) n (message_in e.bytes)).next ≡ left_by g (heard_by e n)
    go zero = refl
    go (suc n) = refl

-- A message that is read has a good source.
pub read_source : (bytes : List ℕ) (m : Message) → read_of bytes ≡ Ok m → bad_node m.source ≡ false
unfolding bad_nodes
read_source bytes m e =
    let h = (read_accepted bytes m).0 e in
    let nodes = first_passed (rest_passed (rest_passed (rest_passed h.0))) in
    ap (λ (x : Message). bad_node x.source) h.1 ∙ (neither (bad_node (message_in bytes).source) (bad_where_present (message_in bytes).destination) nodes).0

pub heard_bounded : (g : Gate) (e : Entry) → Bounded g → Bounded (left_by g (heard_of g.ports e))
heard_bounded g e i =
    subst (λ (t : Told (List Message)). Bounded (left_by g (cond (ltb e.port g.ports) (heard_at e.port t) []))) (read_told_lem e.bytes)
    (go (ltb e.port g.ports) refl (read_of e.bytes) refl)
  where
    go : (t : Bool) → ltb e.port g.ports ≡ t → (r : Result Message ℕ) → read_of e.bytes ≡ r → Bounded (left_by g (cond t (heard_at e.port (told_of r)) []))
    go true f (Ok m) k = bounded_taken g e.port m i (ltb-true e.port g.ports f) (read_source e.bytes m k)
    go true f (Err n) k = i
    go false f r k = i

-- ---- every history

pub record Left (g : Gate) (h : List Entry) : Type 0 where
  pub as_left : after g h ≡ left_by g (accepted g.ports h)
  pub bounded : Bounded (after g h)

pub history_left : (g : Gate) → Bounded g → (h : List Entry) → Left g h
unfolding accepted
history_left g i [] = record { as_left = refl; bounded = i }
history_left g i (e ∷ h) =
    let heard = heard_of g.ports e in
    let one = step_heard g e (bounded_in g i) in
    let g' = (step g e.port e.bytes).next in
    let i' : Bounded g' = subst Bounded (sym one) (heard_bounded g e i) in
    let rest = history_left g' i' h in
    let ports : g'.ports ≡ g.ports = ap (λ (x : Gate). x.ports) one ∙ (left_box g heard).0 in
    record {
      as_left = rest.as_left
          ∙ ap₂ (λ (x : Gate) (n : ℕ). left_by x (accepted n h)) one ports
          ∙ sym (left_append g heard (accepted g.ports h));
      bounded = rest.bounded;
    }
