-- The walk over a trial file's entries: the box that it starts, and where each entry's body stands.
use Prim.Native.Nat.{ℕ, ◌+◌, ◌-◌, ◌≤◌, ◌<◌}
use mathlib.Core.Path.{◌≡◌, sym, ap, ap₂, ◌∙◌}
use mathlib.Core.List.{[]}
use native.Mathlib.Omega.{arith}
use lib.ListN.{length, take, drop}
use Rattle.range.specs.Range.{house}
use Rattle.gateway_rules.specs.State.{Gate, start_of}
use Rattle.gateway_rules.specs.Step.{start}
use Rattle.index_rules.specs.Index.{index_of}
use Rattle.index_rules.specs.Boxes.{Right}
use Rattle.gateway.specs.State.{gate_in, gate_of, box_of}
use Rattle.gateway.specs.declared.Answer.{Answer}
use Rattle.gateway.specs.Answers.{Seen, seen_in, seen_of}
use Rattle.replay.specs.declared.entries.Entries.{Entries}
use Rattle.replay.specs.Files.{entry_count, entry_at, length_in, body_at, body_in}
use Rattle.replay.specs.Lines.{ports}
use Rattle.replay.proofs.Good.{good_file_lem, body_next, body_part, body_within}

-- A start with 4 ports is not refused, and its index is right.
module _ (a : Answer) (e : seen_in a ≡ seen_of (index_of []) (start ports house)) where
  pub started : gate_of a.gateway ≡ start_of ports house
  unfolding start
  started = ap (λ (x : Seen). x.gate) e

  pub started_ports : a.gateway.head.ports ≡ ports
  unfolding gate_in
  started_ports = ap (λ (g : Gate). g.ports) started

  pub started_right : Right (box_of a.gateway)
  unfolding start
  started_right = ap (λ (x : Seen). x.index) e ∙ sym (ap (λ (x : Seen). index_of x.gate.lines) e)

-- Entries of which one is still to come, and the length of its body.
module _ (e : Entries) {size : ℕ} (more : e.index < entry_count e.file.now) (z : size ≡ length_in e.file.now e.index) where
  pub entry_body : take (e.at + size - e.at) (drop e.at e.file.now) ≡ body_in e.file.now e.index
  entry_body = body_part e.file.now e.index e.placed z

  pub entry_within : e.at + size ≤ length e.file.now
  entry_within = omega (arith, body_within (good_file_lem e.file.now e.good) e.index more, e.placed, z)

  -- The next body stands after it.
  pub entry_next : e.at + size ≡ body_at e.file.now (e.index + 1)
  entry_next = ap₂ ◌+◌ e.placed z ∙ sym (body_next e.file.now e.index)

-- What the table of a good file has.
module _ (e : Entries) where
  pub few : e.index ≤ 1000
  few = omega (arith, (good_file_lem e.file.now e.good).count, e.within)

  pub in_table : e.index < entry_count e.file.now → entry_at (e.index + 1) ≤ length e.file.now
  in_table h = omega (arith, (good_file_lem e.file.now e.good).table, h)

  pub small : length e.file.now ≤ 65536
  small = (good_file_lem e.file.now e.good).size

  pub one_more : {count : ℕ} → count ≡ entry_count e.file.now → (e.index ≡ count → ⊥) → e.index < entry_count e.file.now
  one_more h n = omega (arith, h, n, e.within)
