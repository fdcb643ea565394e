-- The relation is the contract. Assumes nothing.
use mathlib.Core.Path.{refl, ap₂}
use Rattle.multicast.specs.Lent.{tables}
use Rattle.promises.proofs.multicast.Goals as goal

pub returns : goal.returns
returns c =
    let m = c.multicast.ensures in record {
      answer = m.answer;
      versions = m.versions;
      numbers = m.numbers;
      meets = λ storage. record { answered = m.answer; kept = ap₂ tables m.versions m.numbers; stays = refl };
    }
