-- Texts that are written piece by piece.
use Rattle.std.specs.Prelude.{ℕ, List, [], ◌∷◌, ◌++◌, decimal}
use Rattle.swim_wire.specs.Address.{address_text}
use Rattle.swim_wire.specs.declared.pieces.Piece.{Piece}
use Rattle.swim_wire.specs.declared.pieces.Piece.TheVariants.{Text, Number, Address}

abbrev pub piece_text : Piece → List ℕ
piece_text (Text text) = text.now
piece_text (Number number) = decimal number
piece_text (Address peer) = address_text peer

abbrev pub pieces_text : List Piece → List ℕ
pieces_text [] = []
pieces_text (piece ∷ pieces) = piece_text piece ++ pieces_text pieces
