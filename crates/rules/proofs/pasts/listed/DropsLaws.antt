-- What becomes of the open message when another comes: the answers of these listings are those that stand in them, computed. Assumes nothing.
use Rattle.std.specs.Prelude.{◌≡◌, refl, true}
use Rattle.std.specs.Int.Count.{ones}
use Rattle.rules.specs.pasts.Listings.{dropped, newcomer_of_one, open_message, came_round}
use Rattle.rules.proofs.pasts.listed.Computing.{kept}

pub dropped_kept : kept dropped ≡ true
unfolding kept ones
dropped_kept = refl {a = true}

pub newcomer_of_one_kept : kept newcomer_of_one ≡ true
unfolding kept ones
newcomer_of_one_kept = refl {a = true}

pub open_message_kept : kept open_message ≡ true
unfolding kept ones
open_message_kept = refl {a = true}

pub came_round_kept : kept came_round ≡ true
unfolding kept ones
came_round_kept = refl {a = true}
