-- The lemmas on cutting and on lengths.
use Rattle.image.proofs.PieceIn.{piece_again}
use Rattle.image.proofs.JoinedPieces.{whole_image}
use Rattle.image.proofs.Measures.{length-piece, state_is_measured}
use Rattle.image.proofs.laws.an_image_is_cut_into_its_pieces.Goals as goal

pub returns-clause-pieces : goal.returns-clause-pieces
returns-clause-pieces c version g x is = piece_again version g x (state_is_measured g x is)

pub returns-clause-sizes : goal.returns-clause-sizes
returns-clause-sizes c version g x is = length-piece version g x (state_is_measured g x is)

pub returns-clause-end : goal.returns-clause-end
returns-clause-end c = whole_image
