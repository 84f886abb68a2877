-- At no byte but those of its table is there a command; the check finds the rows by itself.
use Rattle.std.specs.Prelude.{None}
use Rattle.codes.proofs.Lookup.{missed}
use Rattle.commands.specs.Commands.{command_table}
use Rattle.commands.proofs.decoding.command_of.Goals as goal

pub returns-in_default : goal.returns-in_default
returns-in_default c =
    missed None (Unit {0}) command_table c.args.b c.in_default.in_default-own.rest
