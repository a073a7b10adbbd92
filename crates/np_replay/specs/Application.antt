-- what `clap` is told of the words, and what its two arguments make of them
use Rattle.std.specs.Prelude.{ℕ, true, List, codes, Option, Some, None}
use Rattle.clap.specs.Words.{App, first_value, found_of, new_app, new_rule, with_rule}
use Rattle.clap.specs.Simple.{on_top}
use Rattle.clap.specs.declared.parser.matches.ArgMatches.{ArgMatches}
use Rattle.np_replay.specs.Command.{command_pair, command_word}
use Rattle.np_replay.specs.declared.command.Command.{Command}

-- a command without flags, and with two arguments that are known by their places (own)
abbrev pub application : App
application = with_rule (with_rule (on_top (λ s. record s { no_binary_name = true; disable_help_flag = true; disable_version_flag = true }) (new_app (codes "poolsim"))) (new_rule (codes "command"))) (new_rule (codes "argument"))

-- the command of the values that the two arguments have (own)
abbrev pub command_given : Option (List ℕ) → Option (List ℕ) → Option Command
command_given None argument = None
command_given (Some word) None = command_word word
command_given (Some word) (Some argument) = command_pair word argument

-- the command of what `clap` found, and none if it found a usage error (own)
abbrev pub command_found : Option ArgMatches → Option Command
command_found None = None
command_found (Some found) = command_given (first_value (found_of found) (codes "command")) (first_value (found_of found) (codes "argument"))
