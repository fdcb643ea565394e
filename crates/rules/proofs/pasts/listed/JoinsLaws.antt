-- Pieces that are joined, and the question: the answers of these listings are those that stand in them, computed. Assumes nothing.
use Rattle.std.specs.Prelude.{◌≡◌, refl, true}
use Rattle.std.specs.Int.Count.{ones}
use Rattle.rules.specs.pasts.Listings.{the_listing, any_order, twelve_pieces, two_senders, empty_part, lowest_missing, first_open}
use Rattle.rules.proofs.pasts.listed.Computing.{kept}

pub the_listing_kept : kept the_listing ≡ true
unfolding kept ones
the_listing_kept = refl {a = true}

pub any_order_kept : kept any_order ≡ true
unfolding kept ones
any_order_kept = refl {a = true}

pub twelve_pieces_kept : kept twelve_pieces ≡ true
unfolding kept ones
twelve_pieces_kept = refl {a = true}

pub two_senders_kept : kept two_senders ≡ true
unfolding kept ones
two_senders_kept = refl {a = true}

pub empty_part_kept : kept empty_part ≡ true
unfolding kept ones
empty_part_kept = refl {a = true}

pub lowest_missing_kept : kept lowest_missing ≡ true
unfolding kept ones
lowest_missing_kept = refl {a = true}

pub first_open_kept : kept first_open ≡ true
unfolding kept ones
first_open_kept = refl {a = true}
