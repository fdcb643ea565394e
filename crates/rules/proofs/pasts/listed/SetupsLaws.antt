-- What setup answers, and that its arguments are those given: the answers of these listings are those that stand in them, computed. Assumes nothing.
use Rattle.std.specs.Prelude.{◌≡◌, refl, true}
use Rattle.std.specs.Int.Count.{ones}
use Rattle.rules.specs.pasts.Listings.{setup_limits, refused_setup, mode_as_given, n1_as_given}
use Rattle.rules.proofs.pasts.listed.Computing.{kept}

pub setup_limits_kept : kept setup_limits ≡ true
unfolding kept ones
setup_limits_kept = refl {a = true}

pub refused_setup_kept : kept refused_setup ≡ true
unfolding kept ones
refused_setup_kept = refl {a = true}

pub mode_as_given_kept : kept mode_as_given ≡ true
unfolding kept ones
mode_as_given_kept = refl {a = true}

pub n1_as_given_kept : kept n1_as_given ≡ true
unfolding kept ones
n1_as_given_kept = refl {a = true}
