-- The tables: a code stands in each once, and looking a byte up finds its row. Assumes nothing.
use Prim.Native.Nat.{ℕ}
use mathlib.Core.Path.{◌≡◌, refl, sym, ◌∙◌, ap, subst}
use mathlib.Core.Bool.{Bool, true, false, cond, not, ◌&&◌, true≢false, and-eq-true_iff}
use mathlib.Core.List.{List, [], ◌∷◌, Memᴰ}
use native.Mathlib.Omega.{arith}
use borrow.Author.Tests.{eq-eqb, not-true}
use lib.Dec.{T, eqb, eqb→eq}
use Rattle.grammar.specs.Grammar.{Command, commands, extended_commands}
use Rattle.grammar.specs.Scanner.{Known, Extension, row_of, opening_of, extension_of}

-- A CODE STANDS IN EACH TABLE ONCE

-- every row of a table passes a test
abbrev pub every : (Command → Bool) → List Command → Bool
every f [] = true
every f (k ∷ ks) = f k && every f ks

pub every_mem : (f : Command → Bool) {k : Command} {l : List Command} → every f l ≡ true → Memᴰ k l → f k ≡ true
every_mem f e (Memᴰ.head {x = x} {xs = xs} q) = ap f q ∙ ((and-eq-true_iff (f x) (every f xs)).0 e).0
every_mem f e (Memᴰ.tail {x = x} {xs = xs} m) = every_mem f ((and-eq-true_iff (f x) (every f xs)).0 e).1 m

abbrev fresh : ℕ → List Command → Bool
fresh b l = every (λ (k : Command). not (eqb k.code b)) l

abbrev distinct : List Command → Bool
distinct [] = true
distinct (k ∷ ks) = fresh k.code ks && distinct ks

commands_distinct : distinct commands ≡ true
unfolding commands
commands_distinct = refl

extended_distinct : distinct extended_commands ≡ true
unfolding extended_commands
extended_distinct = refl

commands_fresh : fresh 0x1D commands ≡ true
unfolding commands
commands_fresh = refl

fresh_mem : (b : ℕ) {k : Command} {l : List Command} → fresh b l ≡ true → Memᴰ k l → eqb k.code b ≡ false
fresh_mem b f m = not-true _ (every_mem (λ (y : Command). not (eqb y.code b)) f m)

-- LOOKING A BYTE UP

pub row_sound : (b : ℕ) (l : List Command) (k : Command) → row_of b l ≡ Known k → Memᴰ k l × (b ≡ k.code)
row_sound b [] k e = let z : ◌≡◌ {A = ℕ} 0 1 = cc in absurd (omega arith)
row_sound b (x ∷ xs) k e = go (eqb b x.code) refl e (row_sound b xs k)
  where
    go : (t : Bool) → eqb b x.code ≡ t → cond t (Known x) (row_of b xs) ≡ Known k → (row_of b xs ≡ Known k → Memᴰ k xs × (b ≡ k.code)) → Memᴰ k (x ∷ xs) × (b ≡ k.code)
    go true q p r =
        let s : x ≡ k = cc in
        (Memᴰ.head (sym s), eqb→eq b x.code (subst T (sym q) tt) ∙ ap (λ (y : Command). y.code) s)
    go false q p r = (Memᴰ.tail (r p).0, (r p).1)

row_complete : {k : Command} {l : List Command} → distinct l ≡ true → Memᴰ k l → row_of k.code l ≡ Known k
row_complete {k} d (Memᴰ.head {x = x} {xs = xs} e) =
    ap (λ (t : Bool). cond t (Known x) (row_of k.code xs)) (eq-eqb k.code x.code (ap (λ (y : Command). y.code) e)) ∙ ap Known (sym e)
row_complete {k} d (Memᴰ.tail {x = x} {xs = xs} m) =
    ap (λ (t : Bool). cond t (Known x) (row_of k.code xs)) (fresh_mem x.code ((and-eq-true_iff (fresh x.code xs) (distinct xs)).0 d).0 m)
    ∙ row_complete ((and-eq-true_iff (fresh x.code xs) (distinct xs)).0 d).1 m

pub row_no_extension : (b : ℕ) (l : List Command) → row_of b l ≡ Extension → ⊥
row_no_extension b [] e = let z : ◌≡◌ {A = ℕ} 0 1 = cc in omega arith
row_no_extension b (x ∷ xs) e = go (eqb b x.code) e (row_no_extension b xs)
  where
    go : (t : Bool) → cond t (Known x) (row_of b xs) ≡ Extension → (row_of b xs ≡ Extension → ⊥) → ⊥
    go true p r = let z : ◌≡◌ {A = ℕ} 0 1 = cc in omega arith
    go false p r = r p

-- BETWEEN ITEMS

pub opening_known : (b : ℕ) (k : Command) → opening_of b ≡ Known k → Memᴰ k commands × (b ≡ k.code)
unfolding opening_of
opening_known b k e = go (eqb b 0x1D) e
  where
    go : (t : Bool) → cond t Extension (row_of b commands) ≡ Known k → Memᴰ k commands × (b ≡ k.code)
    go true p = let z : ◌≡◌ {A = ℕ} 0 1 = cc in absurd (omega arith)
    go false p = row_sound b commands k p

pub opening_extension : (b : ℕ) → opening_of b ≡ Extension → b ≡ 0x1D
unfolding opening_of
opening_extension b e = go (eqb b 0x1D) refl e
  where
    go : (t : Bool) → eqb b 0x1D ≡ t → cond t Extension (row_of b commands) ≡ Extension → b ≡ 0x1D
    go true q p = eqb→eq b 0x1D (subst T (sym q) tt)
    go false q p = absurd (row_no_extension b commands p)

pub opening_command : {k : Command} → Memᴰ k commands → opening_of k.code ≡ Known k
unfolding opening_of
opening_command {k} m =
    ap (λ (t : Bool). cond t Extension (row_of k.code commands)) (fresh_mem 0x1D commands_fresh m) ∙ row_complete commands_distinct m

-- AFTER 1D

pub extension_known : (b : ℕ) (k : Command) → extension_of b ≡ Known k → Memᴰ k extended_commands × (b ≡ k.code)
unfolding extension_of
extension_known b k e = row_sound b extended_commands k e

pub extension_none : (b : ℕ) → extension_of b ≡ Extension → ⊥
unfolding extension_of
extension_none b e = row_no_extension b extended_commands e

pub extension_command : {k : Command} → Memᴰ k extended_commands → extension_of k.code ≡ Known k
unfolding extension_of
extension_command m = row_complete extended_distinct m

-- ONE ROW FOR A CODE

same_known : (k k' : Command) → Known k ≡ Known k' → k ≡ k'
same_known k k' e = cc

pub same_command : {k k' : Command} → Memᴰ k commands → Memᴰ k' commands → k.code ≡ k'.code → k ≡ k'
same_command {k} {k'} m m' e = same_known k k' (sym (opening_command m) ∙ ap opening_of e ∙ opening_command m')

pub same_extended : {k k' : Command} → Memᴰ k extended_commands → Memᴰ k' extended_commands → k.code ≡ k'.code → k ≡ k'
same_extended {k} {k'} m m' e = same_known k k' (sym (extension_command m) ∙ ap extension_of e ∙ extension_command m')

pub no_1d : {k : Command} → Memᴰ k commands → k.code ≡ 0x1D → ⊥
no_1d {k} m e = true≢false (sym (eq-eqb k.code 0x1D e) ∙ fresh_mem 0x1D commands_fresh m)
