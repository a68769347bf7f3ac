-- What a parse reads of a command that was given a version.
use Rattle.std.specs.Prelude.{true}
use Rattle.clap.specs.Words.{App}

abbrev pub versioned : App → App
versioned app = record app { top = record app.top { has_version = true } }
