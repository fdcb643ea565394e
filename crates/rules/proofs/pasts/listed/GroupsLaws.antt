-- Packets to groups: the answers of these listings are those that stand in them, computed. Assumes nothing.
use Rattle.std.specs.Prelude.{◌≡◌, refl, true}
use Rattle.std.specs.Int.Count.{ones}
use Rattle.rules.specs.pasts.Listings.{group_setups, group_places, group_tables, group_order}
use Rattle.rules.proofs.pasts.listed.Computing.{kept}

pub group_setups_kept : kept group_setups ≡ true
unfolding kept ones
group_setups_kept = refl {a = true}

pub group_places_kept : kept group_places ≡ true
unfolding kept ones
group_places_kept = refl {a = true}

pub group_tables_kept : kept group_tables ≡ true
unfolding kept ones
group_tables_kept = refl {a = true}

pub group_order_kept : kept group_order ≡ true
unfolding kept ones
group_order_kept = refl {a = true}
