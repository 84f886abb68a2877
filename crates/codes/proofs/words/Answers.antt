-- The table has words for each code, and for no other number.
use mathlib.Core.Path.{sym, ap}
use native.Mathlib.Omega.{arith}
use Rattle.padding.specs.Padding.{bytes}
use Rattle.codes.specs.Codes.{Meaning, means, passes, code_table, text_of, words_in, words_of}
use Rattle.codes.proofs.Lookup.{missed}
use Rattle.codes.proofs.words.Goals as goal

pub returns-in-0 : goal.returns-in-0
returns-in-0 c =
    record { text = sym (ap text_of c.in-0.is); in_table = sym (ap words_of c.in-0.is); within = omega arith }

pub returns-in-32 : goal.returns-in-32
returns-in-32 c =
    record { text = sym (ap text_of c.in-32.is); in_table = sym (ap words_of c.in-32.is); within = omega arith }

pub returns-in-64 : goal.returns-in-64
returns-in-64 c =
    record { text = sym (ap text_of c.in-64.is); in_table = sym (ap words_of c.in-64.is); within = omega arith }

pub returns-in-96 : goal.returns-in-96
returns-in-96 c =
    record { text = sym (ap text_of c.in-96.is); in_table = sym (ap words_of c.in-96.is); within = omega arith }

pub returns-in-128 : goal.returns-in-128
returns-in-128 c =
    record { text = sym (ap text_of c.in-128.is); in_table = sym (ap words_of c.in-128.is); within = omega arith }

pub returns-in-129 : goal.returns-in-129
returns-in-129 c =
    record { text = sym (ap text_of c.in-129.is); in_table = sym (ap words_of c.in-129.is); within = omega arith }

pub returns-in-130 : goal.returns-in-130
returns-in-130 c =
    record { text = sym (ap text_of c.in-130.is); in_table = sym (ap words_of c.in-130.is); within = omega arith }

pub returns-in-131 : goal.returns-in-131
returns-in-131 c =
    record { text = sym (ap text_of c.in-131.is); in_table = sym (ap words_of c.in-131.is); within = omega arith }

pub returns-in-132 : goal.returns-in-132
returns-in-132 c =
    record { text = sym (ap text_of c.in-132.is); in_table = sym (ap words_of c.in-132.is); within = omega arith }

pub returns-in_default : goal.returns-in_default
returns-in_default c =
    let e = missed (means "" passes) (Unit {0}) code_table c.args.code c.in_default.in_default-own.rest in
    record { text = ap (λ (m : Meaning). bytes m.words) e; in_table = ap words_in e; within = omega arith }
