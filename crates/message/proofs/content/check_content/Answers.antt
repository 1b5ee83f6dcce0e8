-- Each return is reached by the tests above it, in the order of the list.
use Prim.Native.Nat.{ℕ, ◌≤◌, ◌<◌}
use mathlib.Core.Path.{◌≡◌, sym, ap, ◌∙◌}
use mathlib.Core.Bool.{Bool, true, false, cond, not, ◌&&◌}
use mathlib.Core.List.{List}
use native.Mathlib.Omega.{arith}
use lib.Dec.{eqb, ltb}
use lib.ListN.{length}
use borrow.Author.Tests.{lt-ltb, le-ltb, eq-eqb, ne_eqb}
use Rattle.numbers.specs.Numbers.{number_in}
use Rattle.numbers.proofs.Laws.{number_fits}
use Rattle.basics.specs.Refusals.{first_of}
use Rattle.message.specs.declared.Meaning.{Meaning}
use Rattle.message.specs.Mti.{is_restart, meaning_of, kind_of}
use Rattle.message.specs.Messages.{rest_tests}
use Rattle.message.proofs.Laws.{restart_six}
use Rattle.message.proofs.content.check_content.Goals as goal

module _ (code source : ℕ) (s : List ℕ) (x : Meaning) (row : x ≡ meaning_of code) where
  -- What is known of the row is known of the MTI's.
  kind_known : (t : Bool) → is_restart x.kind ≡ t → is_restart (kind_of code) ≡ t
  kind_known t k = ap (λ (y : Meaning). is_restart y.kind) (sym row) ∙ k

  least_known : (t : Bool) → ltb (length s) x.least ≡ t → ltb (length s) (meaning_of code).least ≡ t
  least_known t k = ap (λ (y : Meaning). ltb (length s) y.least) (sym row) ∙ k

  most_known : (t : Bool) → ltb x.most (length s) ≡ t → ltb (meaning_of code).most (length s) ≡ t
  most_known t k = ap (λ (y : Meaning). ltb y.most (length s)) (sym row) ∙ k

  too_few : length s < x.least → 4 ≡ first_of (rest_tests code source s)
  too_few h = rw (least_known true (lt-ltb (length s) x.least h))

  module _ (enough : x.least ≤ length s) where
    too_many : x.most < length s → 4 ≡ first_of (rest_tests code source s)
    too_many h = rw (least_known false (le-ltb (length s) x.least enough), most_known true (lt-ltb x.most (length s) h))

    module _ (few : length s ≤ x.most) where
      by_kind : (t : Bool) → is_restart x.kind ≡ t → first_of (rest_tests code source s) ≡ cond (t && not (eqb (number_in s) source)) 5 0
      by_kind t k = rw (least_known false (le-ltb (length s) x.least enough), most_known false (le-ltb x.most (length s) few), kind_known t k)

pub returns-then-content-meaning : goal.returns-then-content-meaning
returns-then-content-meaning c = too_few _ c.args.source _ _ c.meaning_of-meaning.ensures c.if-content-meaning.true

pub returns-then-meaning-content : goal.returns-then-meaning-content
returns-then-meaning-content c = too_many _ c.args.source _ _ c.meaning_of-meaning.ensures c.if-content-meaning.false c.if-meaning-content.true

pub returns-then-not-is_restart : goal.returns-then-not-is_restart
returns-then-not-is_restart c =
    sym (by_kind _ c.args.source _ _ c.meaning_of-meaning.ensures c.if-content-meaning.false c.if-meaning-content.false false (sym c.if-not-is_restart.ensures))

-- The content of a restart has six bytes, so all of it is compared.
pub returns-then-read-source : goal.returns-then-read-source
returns-then-read-source c =
    let row = c.meaning_of-meaning.ensures in
    let kind = sym c.if-not-is_restart.ensures in
    let six = ap (λ (x : Meaning). x.most) row ∙ restart_six c.args.code (kind_known _ c.args.source c.args.content.now _ row true kind) in
    let whole = number_fits c.args.content.now (λ k. (c.type_inv.content k).fits) (omega (arith, six, c.if-meaning-content.false)) in
    sym (by_kind _ c.args.source _ _ row c.if-content-meaning.false c.if-meaning-content.false true kind
    ∙ (rw (eq-eqb (number_in c.args.content.now) c.args.source (sym (c.read.ensures ∙ whole) ∙ c.if-read-source.true))))

pub returns-else-read-source : goal.returns-else-read-source
returns-else-read-source c =
    let row = c.meaning_of-meaning.ensures in
    let kind = sym c.if-not-is_restart.ensures in
    let six = ap (λ (x : Meaning). x.most) row ∙ restart_six c.args.code (kind_known _ c.args.source c.args.content.now _ row true kind) in
    let whole = number_fits c.args.content.now (λ k. (c.type_inv.content k).fits) (omega (arith, six, c.if-meaning-content.false)) in
    sym (by_kind _ c.args.source _ _ row c.if-content-meaning.false c.if-meaning-content.false true kind
    ∙ (rw (ne_eqb (number_in c.args.content.now) c.args.source (λ e. c.if-read-source.false (c.read.ensures ∙ whole ∙ e)))))
