-- Clock calls, and what they drop: the answers of these listings are those that stand in them, computed. Assumes nothing.
use Rattle.std.specs.Prelude.{◌≡◌, refl, true}
use Rattle.std.specs.Int.Count.{ones}
use Rattle.rules.specs.pasts.Listings.{stamp, drop_time, clock_limits}
use Rattle.rules.proofs.pasts.listed.Computing.{kept}

pub stamp_kept : kept stamp ≡ true
unfolding kept ones
stamp_kept = refl {a = true}

pub drop_time_kept : kept drop_time ≡ true
unfolding kept ones
drop_time_kept = refl {a = true}

pub clock_limits_kept : kept clock_limits ≡ true
unfolding kept ones
clock_limits_kept = refl {a = true}
