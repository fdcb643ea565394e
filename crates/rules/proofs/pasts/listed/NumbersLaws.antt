-- The number check: the answers of these listings are those that stand in them, computed. Assumes nothing.
use Rattle.std.specs.Prelude.{◌≡◌, refl, true}
use Rattle.std.specs.Int.Count.{ones}
use Rattle.rules.specs.pasts.Listings.{number_check, how_old, unchecked}
use Rattle.rules.proofs.pasts.listed.Computing.{kept}

pub number_check_kept : kept number_check ≡ true
unfolding kept ones
number_check_kept = refl {a = true}

pub how_old_kept : kept how_old ≡ true
unfolding kept ones
how_old_kept = refl {a = true}

pub unchecked_kept : kept unchecked ≡ true
unfolding kept ones
unchecked_kept = refl {a = true}
