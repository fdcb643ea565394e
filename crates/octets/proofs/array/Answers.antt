-- The octets from the place on, and 0 past the end, make the same number. Assumes nothing.
use Rattle.std.proofs.Common.{rules, ◌∙◌}
use Rattle.octets.specs.Number.{number}
use Rattle.octets.proofs.MadeLaws.{made_each}
use Rattle.octets.proofs.NumberLaws.{number_alike, number_one, number_rest, number_take}
use Rattle.octets.proofs.array.Goals as goal

pub returns-in-Some : goal.returns-in-Some
returns-in-Some g c =
    number_take g.row.W c.from-part.result.now _ c.in-Some.ensures.cases.same
    ∙ number_rest g.row.W c.args.s.now c.args.at _ c.from-part.ensures

pub returns-in-None : goal.returns-in-None
returns-in-None g c =
    let w = g.row.W in
    let part = c.from-part.result.now in
    number_alike w c.from_fn.result part
    (λ k less. made_each _ _ (number 1 part) c.from_fn.result (λ i y q e. search rules) 0 w c.from_fn.ensures.items k less ∙ number_one part k)
    ∙ number_rest w c.args.s.now c.args.at part c.from-part.ensures
