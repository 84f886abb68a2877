-- What a list, a command or a fault that was read to the front of a buffer parses to. Assumes nothing.
use Prim.Native.Nat.{ℕ, ◌-◌, ◌≤◌}
use mathlib.Core.Path.{◌≡◌, refl, sym, ap, ◌∙◌, subst}
use mathlib.Core.List.{List, [], ◌∷◌, ◌++◌}
use native.Mathlib.Omega.{arith}
use native.Mathlib.Nat.{zero-add, sub-zero}
use lib.Dec.{eqb}
use lib.ListN.{length, take, length-append}
use Rattle.std.specs.Prelude.{Some, Ok, Err}
use Rattle.wire.specs.Buffer.{overwrite, Written}
use Rattle.wire.proofs.Buffers.{overwrite_length, overwrite_append, overwrite_through}
use Rattle.names.specs.Names.{is_extended}
use Rattle.records.specs.declared.kinds.Kind.{Kind}
use Rattle.records.specs.declared.kinds.Kind.TheVariants.{Bytes, Fault}
use Rattle.grammar.specs.declared.Context.{Context}
use Rattle.wire.proofs.Choices.{by_cond, by_bool}
use Rattle.text.specs.declared.words.Word.{Word}
use Rattle.text.specs.Lists.{Outcome, Reads, list_of}
use Rattle.text.specs.declared.Assembled.{Assembled}
use Rattle.script.specs.Statements.{most, bytes, list_statement, list_at, opening, takes, command_statement, command_at}
use Rattle.script.specs.Parsed.{Answer, InBuffer, Parses, parsed, list_ended, list_parsed, command_ended, command_parsed}

-- the front of a buffer that bytes were written to
pub front : (o zs : List ℕ) → length zs ≤ length o → take (length zs) (overwrite o 0 zs) ≡ zs
front o zs h = ap (λ (k : ℕ). take k (overwrite o 0 zs)) (sym (zero-add (length zs))) ∙ overwrite_through o 0 zs (omega arith)

-- A LIST
module _ (kind : Kind) (p : ℕ) (o xs : List ℕ) (h : length xs ≤ length o) where
  list_ended_lem : (w : Outcome) → Parses (list_statement kind p xs w) (overwrite o 0 xs) (list_ended kind p (length xs) w)
  list_ended_lem (Ok _) =
      by_bool (eqb (length xs) 0)
      (λ e. rw e (record { is = refl; within = tt }))
      (λ e. rw e (record { is = ap (λ (l : List ℕ). bytes kind l) (sym (front o xs h)); within = omega (arith, overwrite_length o 0 xs) }))
  list_ended_lem (Err e) = record { is = refl; within = tt }

pub parses_list : (t : List ℕ) (kind : Kind) (p : ℕ) {o x : List ℕ} {a : Assembled} → length o ≡ most → Reads (list_of t (length o - 0) p) o 0 x a → Parses (list_at t kind p) x (list_parsed kind p a)
parses_list t kind p {o} {x} {a} e r =
    let room : length o - 0 ≡ most = sub-zero (length o) ∙ e in
    let d : Reads (list_of t most p) o 0 x a = subst (λ (n : ℕ). Reads (list_of t n p) o 0 x a) room r in
    let n : a.size ≡ length (list_of t most p).bytes = (d).size ∙ zero-add (length (list_of t most p).bytes) in
    rw ((d).bytes, n, (d).outcome) (list_ended_lem kind p o (list_of t most p).bytes (omega (arith, n, (d).within)) (list_of t most p).outcome)

-- A COMMAND WITH ITS OPERANDS
module _ (c : Context) (row p : ℕ) (o xs : List ℕ) (h : length (opening row ++ xs) ≤ length o) where
  command_ended_lem : (w : Outcome) → Parses (command_statement c row p xs w) (overwrite o 0 (opening row ++ xs)) (command_ended c row p (length (opening row)) (length (opening row ++ xs)) w)
  command_ended_lem (Ok _) =
      let n : length (opening row ++ xs) - length (opening row) ≡ length xs = omega (arith, length-append (opening row) xs) in
      by_bool (eqb (length xs) (takes c row))
      (λ e. rw (n, e) (record { is = ap (λ (l : List ℕ). bytes Bytes l) (sym (front o (opening row ++ xs) h)); within = omega (arith, overwrite_length o 0 (opening row ++ xs)) }))
      (λ e. rw (n, e) (record { is = refl; within = tt }))
  command_ended_lem (Err e) = record { is = refl; within = tt }

pub opening_within : (row : ℕ) {o y : List ℕ} {n : ℕ} → length o ≡ most → Written o 0 (opening row) y n → n ≤ length y
opening_within row {o} {y} {n} e w =
    let m : length (opening row) ≤ 2 = by_cond (λ (l : List ℕ). length l ≤ 2) (is_extended row) (λ _. omega arith) (λ _. omega arith) in
    omega (arith, m, w.after, overwrite_length o 0 (opening row), ap length w.bytes)

pub parses_command : (t : List ℕ) (c : Context) (w : Word) (row : ℕ) {o y x : List ℕ} {n : ℕ} {a : Assembled} → length o ≡ most
    → Written o 0 (opening row) y n → Reads (list_of t (length y - n) w.end) y n x a → Parses (command_at t c w (Some row)) x (command_parsed c row w.start n a)
parses_command t c w row {o} {y} {x} {n} {a} e u r =
    let l = opening row in
    let k : n ≡ length l = u.after ∙ zero-add (length l) in
    let room : length y - n ≡ most - length l = omega (arith, k, e, ap length u.bytes, overwrite_length o 0 l) in
    let d : Reads (list_of t (most - length l) w.end) y n x a = subst (λ (m : ℕ). Reads (list_of t m w.end) y n x a) room r in
    let xs = (list_of t (most - length l) w.end).bytes in
    let b : x ≡ overwrite o 0 (l ++ xs) = (d).bytes ∙ rw (u.bytes, u.after) (overwrite_append o 0 l xs) in
    let z : a.size ≡ length (l ++ xs) = (d).size ∙ rw k (sym (length-append l xs)) in
    rw (b, k, z, (d).outcome) (command_ended_lem c row w.start o xs (omega (arith, z, (d).within, ap length u.bytes, overwrite_length o 0 l)) (list_of t (most - length l) w.end).outcome)

-- A FAULT, one byte
pub parses_fault : (code : ℕ) {o x : List ℕ} {n : ℕ} → length o ≡ most → Written o 0 (code ∷ []) x n → Parses (bytes Fault (code ∷ [])) x (parsed Fault n)
parses_fault code {o} {x} {n} e w =
    rw (w.bytes, w.after) (record { is = ap (λ (l : List ℕ). bytes Fault l) (sym (front o (code ∷ []) (omega (arith, e)))); within = omega (arith, e, overwrite_length o 0 (code ∷ [])) })

-- the bytes of a parsed statement are in the buffer
pub bytes_within : (l : List ℕ) (r : Answer) {kind : Kind} {n : ℕ} → r ≡ parsed kind n → InBuffer l r → n ≤ length l
bytes_within l r e h = subst (λ (x : Answer). InBuffer l x) e h
