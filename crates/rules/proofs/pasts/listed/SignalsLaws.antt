-- Alive signals, and who dies: the answers of these listings are those that stand in them, computed. Assumes nothing.
use Rattle.std.specs.Prelude.{◌≡◌, refl, true}
use Rattle.std.specs.Int.Count.{ones}
use Rattle.rules.specs.pasts.Listings.{sixteen_senders, alive_length, alive_fields, alive_fault, seconds, alive_stamp, dead_by_mode, dead_map}
use Rattle.rules.proofs.pasts.listed.Computing.{kept}

pub sixteen_senders_kept : kept sixteen_senders ≡ true
unfolding kept ones
sixteen_senders_kept = refl {a = true}

pub alive_length_kept : kept alive_length ≡ true
unfolding kept ones
alive_length_kept = refl {a = true}

pub alive_fields_kept : kept alive_fields ≡ true
unfolding kept ones
alive_fields_kept = refl {a = true}

pub alive_fault_kept : kept alive_fault ≡ true
unfolding kept ones
alive_fault_kept = refl {a = true}

pub seconds_kept : kept seconds ≡ true
unfolding kept ones
seconds_kept = refl {a = true}

pub alive_stamp_kept : kept alive_stamp ≡ true
unfolding kept ones
alive_stamp_kept = refl {a = true}

pub dead_by_mode_kept : kept dead_by_mode ≡ true
unfolding kept ones
dead_by_mode_kept = refl {a = true}

pub dead_map_kept : kept dead_map ≡ true
unfolding kept ones
dead_map_kept = refl {a = true}
