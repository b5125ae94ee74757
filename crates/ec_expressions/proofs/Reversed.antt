-- Lists from their end.
use Rattle.std.proofs.Common.{◌≡◌, List, length, reverse}
use Rattle.std.proofs.lemmas.List.{reverse-reverse, length-reverse}
use Rattle.ec_code.specs.declared.code.Op.{Op}

pub twice : (xs : List Op) → reverse (reverse xs) ≡ xs
twice xs = reverse-reverse xs

pub as_long : (xs : List Op) → length (reverse xs) ≡ length xs
as_long xs = length-reverse xs
