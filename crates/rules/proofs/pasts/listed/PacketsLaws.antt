-- What a packet must be: the answers of these listings are those that stand in them, computed. Assumes nothing.
use Rattle.std.specs.Prelude.{◌≡◌, refl, true}
use Rattle.std.specs.Int.Count.{ones}
use Rattle.rules.specs.pasts.Listings.{out_of_range, not_registered, lowest_number, message_length, packet_length, piece_length, cut_not_possible}
use Rattle.rules.proofs.pasts.listed.Computing.{kept}

pub out_of_range_kept : kept out_of_range ≡ true
unfolding kept ones
out_of_range_kept = refl {a = true}

pub not_registered_kept : kept not_registered ≡ true
unfolding kept ones
not_registered_kept = refl {a = true}

pub lowest_number_kept : kept lowest_number ≡ true
unfolding kept ones
lowest_number_kept = refl {a = true}

pub message_length_kept : kept message_length ≡ true
unfolding kept ones
message_length_kept = refl {a = true}

pub packet_length_kept : kept packet_length ≡ true
unfolding kept ones
packet_length_kept = refl {a = true}

pub piece_length_kept : kept piece_length ≡ true
unfolding kept ones
piece_length_kept = refl {a = true}

pub cut_not_possible_kept : kept cut_not_possible ≡ true
unfolding kept ones
cut_not_possible_kept = refl {a = true}
