-- What the class of a number says.
use Rattle.std.proofs.Common.{ℕ, Bool, arith}
use Rattle.linda_book.specs.Classes.{class_of, IsClass}

-- The class of each number after each last one, that of a Leave or not, says what it is to say.
pub class_means : (last : ℕ) (left : Bool) (n : ℕ) → IsClass last left n (class_of last left n)
class_means last left n = grind (arith)
