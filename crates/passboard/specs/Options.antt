-- What the options ask for.
use Rattle.std.specs.Prelude.{◌≡◌, ℕ, true, cond, List, Some, None, Option, bytes_eq, codes, option_and_then}
use Rattle.clap.specs.Words.{first_value, one_text}
use Rattle.clap.specs.declared.parser.matches.Found.{Found}
use Rattle.steptext.specs.Words.{word_mode}
use Rattle.passboard.specs.declared.arguments.Options.{Options}
use Rattle.passboard.specs.declared.arguments.Keeping.{Keeping}
use Rattle.passboard.specs.declared.arguments.Keeping.TheVariants.{Eager, Lazy}
use Rattle.passboard.specs.declared.arguments.Kind.{Kind}
use Rattle.passboard.specs.declared.arguments.Kind.TheVariants.{Coil, Length, Marks, Toggles, Extremes}

abbrev pub keeping_named : List ℕ → Option Keeping
keeping_named w = cond (bytes_eq w (codes "eager")) (Some Eager) (cond (bytes_eq w (codes "lazy")) (Some Lazy) None)

abbrev pub kind_named : List ℕ → Option Kind
kind_named w =
    cond (bytes_eq w (codes "coil")) (Some Coil)
    (cond (bytes_eq w (codes "length")) (Some Length)
    (cond (bytes_eq w (codes "marks")) (Some Marks)
    (cond (bytes_eq w (codes "toggles")) (Some Toggles)
    (cond (bytes_eq w (codes "extremes")) (Some Extremes) None))))

-- the options are those that the matches have by their names
pub record AskedFor (found : Found) (o : Options) : Type 0 where
  pub mode : option_and_then word_mode (first_value found (codes "mode")) ≡ Some o.mode
  pub keeping : option_and_then keeping_named (first_value found (codes "accumulator")) ≡ Some o.keeping
  pub kind : option_and_then kind_named (first_value found (codes "value")) ≡ Some o.kind
  pub strict : one_text found (codes "strict") ≡ Some (codes "true") → o.strict ≡ true
