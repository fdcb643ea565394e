-- Number by number is octet by octet. Assumes nothing.
use Rattle.std.proofs.Common.{rules, ◌≡◌, ℕ, ◌∙◌}
use Rattle.std.specs.List.{fold}
use Rattle.octets.specs.Number.{octets}
use Rattle.edges_lines.specs.Sum.{sum_from}
use Rattle.edges_lines.proofs.SumLaws.{by_number}
use Rattle.edges_lines.proofs.sum_of_numbers.Goals as goal

pub returns : goal.returns
returns c =
    let numbers = c.args.numbers.now in
    let folded : c.fold.result ≡ fold (λ (t n : ℕ). sum_from t (octets 4 n)) 7 numbers = search rules in
    folded ∙ by_number numbers 7
