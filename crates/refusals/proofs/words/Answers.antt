-- The number's entry in the table of words.
use Rattle.std.proofs.Common.{arith, ◌≡◌, ℕ, zero, suc, ◌≤◌, [], ◌∷◌, map, refl, sym, ap}
use Prim.Native.String.{String}
use Rattle.padding.specs.Padding.{bytes, blanks}
use lib.ListN.{get_or-eq_default}
use Rattle.refusals.specs.Refusals.{table_words, lines, text_of, words_of, words_width}
use Rattle.refusals.proofs.words.Goals as goal

no_text : (n : ℕ) → (1 ≤ n → 13 ≤ n) → [] ≡ text_of n
unfolding text_of
no_text zero h = refl
no_text (suc n) h = sym (get_or-eq_default ([] ∷ map (λ (w : String). bytes w) table_words) [] {n = suc n} (h (omega arith)))

no_words : (n : ℕ) → (1 ≤ n → 13 ≤ n) → blanks words_width ≡ words_of n
unfolding words_of
no_words zero h = refl
no_words (suc n) h = sym (get_or-eq_default lines (blanks words_width) {n = suc n} (h (omega arith)))

pub returns-in-1 : goal.returns-in-1
unfolding text_of words_of
returns-in-1 c =
    record { text = sym (ap text_of c.in-1.is); in_table = sym (ap words_of c.in-1.is); within = omega arith }

pub returns-in-2 : goal.returns-in-2
unfolding text_of words_of
returns-in-2 c =
    record { text = sym (ap text_of c.in-2.is); in_table = sym (ap words_of c.in-2.is); within = omega arith }

pub returns-in-3 : goal.returns-in-3
unfolding text_of words_of
returns-in-3 c =
    record { text = sym (ap text_of c.in-3.is); in_table = sym (ap words_of c.in-3.is); within = omega arith }

pub returns-in-4 : goal.returns-in-4
unfolding text_of words_of
returns-in-4 c =
    record { text = sym (ap text_of c.in-4.is); in_table = sym (ap words_of c.in-4.is); within = omega arith }

pub returns-in-5 : goal.returns-in-5
unfolding text_of words_of
returns-in-5 c =
    record { text = sym (ap text_of c.in-5.is); in_table = sym (ap words_of c.in-5.is); within = omega arith }

pub returns-in-6 : goal.returns-in-6
unfolding text_of words_of
returns-in-6 c =
    record { text = sym (ap text_of c.in-6.is); in_table = sym (ap words_of c.in-6.is); within = omega arith }

pub returns-in-7 : goal.returns-in-7
unfolding text_of words_of
returns-in-7 c =
    record { text = sym (ap text_of c.in-7.is); in_table = sym (ap words_of c.in-7.is); within = omega arith }

pub returns-in-8 : goal.returns-in-8
unfolding text_of words_of
returns-in-8 c =
    record { text = sym (ap text_of c.in-8.is); in_table = sym (ap words_of c.in-8.is); within = omega arith }

pub returns-in-9 : goal.returns-in-9
unfolding text_of words_of
returns-in-9 c =
    record { text = sym (ap text_of c.in-9.is); in_table = sym (ap words_of c.in-9.is); within = omega arith }

pub returns-in-10 : goal.returns-in-10
unfolding text_of words_of
returns-in-10 c =
    record { text = sym (ap text_of c.in-10.is); in_table = sym (ap words_of c.in-10.is); within = omega arith }

pub returns-in-11 : goal.returns-in-11
unfolding text_of words_of
returns-in-11 c =
    record { text = sym (ap text_of c.in-11.is); in_table = sym (ap words_of c.in-11.is); within = omega arith }

pub returns-in-12 : goal.returns-in-12
unfolding text_of words_of
returns-in-12 c =
    record { text = sym (ap text_of c.in-12.is); in_table = sym (ap words_of c.in-12.is); within = omega arith }

pub returns-in_default : goal.returns-in_default
returns-in_default c =
    record { text = no_text c.args.number (λ p. omega arith); in_table = no_words c.args.number (λ p. omega arith); within = omega arith }
