-- The lines at the first places of a table: what is known of the one at a place, and one put in.
use Prim.Native.Nat.{ℕ, ◌+◌, ◌<◌}
use mathlib.Core.Path.{◌≡◌, sym, ap, ap₂, ◌∙◌}
use mathlib.Core.Bool.{Bool, true, false}
use mathlib.Core.List.{List, [], ◌∷◌, ◌++◌}
use native.Mathlib.Omega.{arith}
use borrow.Author.Tests.{not-false}
use lib.ListN.{length-set}
use lib.Seq.{get_or-set_same, get_or-set_other}
use Rattle.range.specs.Range.{is_block}
use Rattle.gateway_rules.specs.declared.Line.{Line}
use Rattle.basics.specs.Lists.{any}
use Rattle.gateway.specs.State.{Lists, line_at, Whole, lines_in, put_at, no_block}
use Rattle.basics.proofs.Each.{each_same}
use Rattle.gateway.proofs.Firsts.{one_more, none_at}

pub block_at : (n : ℕ) (t : Lists) (i : ℕ) → any no_block (lines_in n t) ≡ false → i < n → {l : Line} → l ≡ line_at t i → is_block l.block ≡ true
block_at n t i none b {l} here =
    not-false (is_block l.block) (ap no_block here ∙ none_at no_block n (line_at t) i b none)

-- What the code's test of a line that it took out tells of the place.
pub line_tells : (test : Line → Bool) (place : Line) {l : Line} {told is : Bool} → l ≡ place → told ≡ test l → told ≡ is → test place ≡ is
line_tells test place taken tells it = sym (ap test taken) ∙ sym tells ∙ it

-- ---- a place written

pub put_there : (t : Lists) (i : ℕ) (l : Line) → Whole t → i < 256 → line_at (put_at i l t) i ≡ l
put_there t i l w b = λ z. record {
  port = get_or-set_same t.ports i l.port 0 (omega (arith, b, w.2)) z;
  node = get_or-set_same t.nodes i l.node 0 (omega (arith, b, w.0)) z;
  block = record {
    start = get_or-set_same t.starts i l.block.start 0 (omega (arith, b, w.1)) z;
    k = get_or-set_same t.sizes i l.block.k 0 (omega (arith, b, w.3)) z;
  };
}

pub put_elsewhere : (t : Lists) (i : ℕ) (l : Line) (n : ℕ) → (n ≡ i → ⊥) → line_at (put_at i l t) n ≡ line_at t n
put_elsewhere t i l n other = λ z. record {
  port = get_or-set_other t.ports i n l.port 0 other z;
  node = get_or-set_other t.nodes i n l.node 0 other z;
  block = record { start = get_or-set_other t.starts i n l.block.start 0 other z; k = get_or-set_other t.sizes i n l.block.k 0 other z };
}

pub put_whole : (t : Lists) (i : ℕ) (l : Line) → Whole t → Whole (put_at i l t)
put_whole t i l w = (length-set t.nodes i l.node ∙ w.0, length-set t.starts i l.block.start ∙ w.1, length-set t.ports i l.port ∙ w.2, length-set t.sizes i l.block.k ∙ w.3)

-- One more line, put behind the first n.
pub put_last : (n : ℕ) (t : Lists) (l : Line) → Whole t → n < 256 → lines_in (n + 1) (put_at n l t) ≡ lines_in n t ++ (l ∷ [])
put_last n t l w b =
    one_more n (line_at (put_at n l t))
    ∙ ap₂ (λ (xs : List Line) (y : Line). xs ++ (y ∷ []))
    (each_same n (line_at (put_at n l t)) (line_at t) (λ i k. put_elsewhere t n l i (λ e. omega (arith, e, k))))
    (put_there t n l w b)
