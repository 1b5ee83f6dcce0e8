-- The lists are as long as they should be, so that only the index can be wrong.
use Rattle.std.proofs.Common.{◌∙◌, rules}
use Rattle.gateway.specs.State.{lists_of, index_lists_of, Whole}
use Rattle.gateway.specs.Indexing.{WholeIndex}
use Rattle.gateway.proofs.Lending.{whole_asked}
use Rattle.gateway.proofs.state.Gateway.why.Goals as goal

pub returns : goal.returns
returns c =
    let g = c.args.self.now in
    let all : Whole (lists_of g) = search (rules, c.well_formed) in
    let both : WholeIndex (index_lists_of g) = search (rules, c.well_formed) in
    c.why.ensures ∙ whole_asked g.head (lists_of g) (index_lists_of g) c.args.port c.args.bytes.now c.args.asked all both
