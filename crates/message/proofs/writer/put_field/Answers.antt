use Prim.Native.Nat.{ℕ, ◌+◌}
use mathlib.Core.Path.{◌≡◌, sym, ap, ◌∙◌}
use mathlib.Core.List.{List, ◌++◌}
use native.Mathlib.Omega.{arith}
use native.Mathlib.Nat.{add-zero}
use lib.ListN.{length, take, drop, take-append-drop}
use Rattle.std.specs.Prelude.{Option, Some, None}
use Rattle.numbers.proofs.Laws.{bytes_length, put_where_room}
use Rattle.message.specs.Messages.{field_bytes}
use Rattle.numbers.specs.Numbers.{pasted}
use Rattle.message.proofs.writer.put_field.Goals as goal

-- The bytes of a field that is present are put in at its place.
present_width : (w : ℕ) {f : Option ℕ} {x : ℕ} → f ≡ Some x → length (field_bytes w f) ≡ w
present_width w {x = x} e = ap (λ (f : Option ℕ). length (field_bytes w f)) e ∙ bytes_length w x

none_pasted : (at : ℕ) (out : List ℕ) → pasted at (field_bytes 0 None) out ≡ out
none_pasted at out = ap (λ (n : ℕ). take at out ++ drop n out) (add-zero at) ∙ take-append-drop at out

pub overflow_add-result : goal.overflow_add-result
overflow_add-result c = omega (arith, present_width c.args.width c.in-Some.is, c.requires, c.well_formed)

pub returns-in-Some : goal.returns-in-Some
returns-in-Some c =
    let a = c.args in
    let e = c.in-Some.is in record {
      value = ap (λ (n : ℕ). a.at + n) (sym (present_width a.width e));
      out_after = c.write_at.ensures
          ∙ sym (put_where_room _ a.width a.at a.out.now (omega (arith, present_width a.width e, c.requires)))
          ∙ ap (λ (f : Option ℕ). pasted a.at (field_bytes a.width f) a.out.now) (sym e);
    }

pub returns-in-None : goal.returns-in-None
returns-in-None c =
    let a = c.args in
    let e = c.in-None.is in record { value = sym (ap (λ (f : Option ℕ). a.at + length (field_bytes a.width f)) e ∙ add-zero a.at); out_after = sym (ap (λ (f : Option ℕ). pasted a.at (field_bytes a.width f) a.out.now) e ∙ none_pasted a.at a.out.now) }
