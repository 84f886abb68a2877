-- For whoever writes a command stream: where the bytes and line faults so far lead, and how many operands a command then has.
use Rattle.std.specs.Prelude.{ℕ, ◌≡◌, Bool, true, false, cond, List, [], ◌∷◌, Result, Ok, Err}
use Rattle.grammar.specs.Grammar.{Context, count}
use Rattle.grammar.specs.Scanner.{Place, Between, Extended, Inside, Scanner, Opening, Unknown, Known, Extension, opening_of, extension_of, between, scan}
use Rattle.grammar.specs.Machines.{Machine, Call, not_refused, final, bytes}
pub use Rattle.grammar.specs.declared.following.Stream.{Stream}

-- a rejected byte leaves everything but ERROR as it is (01, "Registers and common commands"), and so where the bytes lead
abbrev pub scanner_after : Scanner → Result Scanner ℕ → Scanner
scanner_after g (Ok h) = h
scanner_after g (Err w) = g

unfoldable pub followed : Scanner → List ℕ → Scanner
followed g [] = g
followed g (b ∷ bs) = followed (scanner_after g (scan g b)) bs

-- THEOREM (proofs/Leads.antt, `leads`): of a machine that follows the scanner and waits for nothing at the start, every list of
-- calls, refused and rejected ones included, leads to that context
abbrev pub Leads : (M : Machine) → M.State → List (Call M) → Type 0
Leads M s ks = M.context (final M s ks) ≡ (followed (between (M.context s)) (bytes M (not_refused M s ks))).context

-- WITH LINE FAULTS among the bytes (02, Ask 2): the scanner, and whether the next byte is dropped; the type is declared in src/following.rt
abbrev pub undropped : Scanner → Stream
undropped g = record { scanner = g; drop = false }

abbrev pub undisturbed : Context → Stream
undisturbed c = undropped (between c)

abbrev pub is_between : Place → Bool
is_between Between = true
is_between Extended = false
is_between (Inside e n) = false

-- "Between commands, then, a fault also makes the bridge drop the next good byte"; "Inside an item .. the wait goes on"
abbrev pub after_fault : Stream → Stream
after_fault s = record { scanner = s.scanner; drop = is_between s.scanner.place }

-- "the byte ends the drop and does nothing else"
abbrev pub after_bytes : Stream → List ℕ → Stream
after_bytes s [] = s
after_bytes s (b ∷ bs) = undropped (followed s.scanner (cond s.drop bs (b ∷ bs)))

-- THEOREM (proofs/Leads.antt, `byte_by_byte`): bytes handed over together lead where they lead one by one
abbrev pub ByteByByte : Stream → ℕ → List ℕ → Type 0
ByteByByte s b bs = after_bytes s (b ∷ bs) ≡ after_bytes (after_bytes s (b ∷ [])) bs

-- the operands of what a byte opens: of 1D its extended byte, of a command those of its row
abbrev pub operands_of : Opening → Context → ℕ
operands_of Unknown c = 0
operands_of (Known k) c = count k.operands c
operands_of Extension c = 1

-- what a byte opens after 1D, and between items
abbrev pub opening_in : ℕ → Bool → Opening
opening_in b true = extension_of b
opening_in b false = opening_of b

abbrev pub operands_in : Context → ℕ → Bool → ℕ
operands_in c b extended = operands_of (opening_in b extended) c
