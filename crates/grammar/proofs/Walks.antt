-- The scanner goes through orderly bytes, and what it goes through can be continued. Assumes nothing.
use Prim.Native.Nat.{ℕ, zero, suc}
use mathlib.Core.Path.{◌≡◌, refl, sym, ◌∙◌, ap, subst}
use mathlib.Core.Bool.{Bool, true, false, cond}
use mathlib.Core.List.{List, [], ◌∷◌, ◌++◌}
use mathlib.Core.Logic.{◌↔◌}
use native.Mathlib.Omega.{arith}
use lib.ListN.{length}
use Rattle.grammar.specs.Grammar.{Context, ContextChange, Command, extended_commands, legal, count, context_after, last, Item, command, extended, Items, next, join, Orderly, Continuable, Bytes}
use Rattle.grammar.specs.WrongCode.{code_for}
use Rattle.std.specs.Prelude.{Result, Ok, Err}
use Rattle.grammar.specs.Scanner.{Place, Between, Extended, Inside, Scanner, Opening, Unknown, Known, Extension, opening_of, extension_of, between, going, opened, scan_at, scan}
use Rattle.grammar.proofs.Table.{opening_known, opening_extension, opening_command, extension_known, extension_none, extension_command}

-- A WALK: the bytes are all accepted, and lead from one scanner to the other
pub data Walk : Scanner → List ℕ → Scanner → Type 0 where
  stay : {g : Scanner} → Walk g [] g
  move : {g h i : Scanner} {b : ℕ} {bs : List ℕ} → scan g b ≡ Ok h → Walk h bs i → Walk g (b ∷ bs) i

pub walk_append : {g h i : Scanner} {xs ys : List ℕ} → Walk g xs h → Walk h ys i → Walk g (xs ++ ys) i
walk_append stay w = w
walk_append (move e v) w = move e (walk_append v w)

pub walk_split : {g i : Scanner} (xs : List ℕ) {ys : List ℕ} → Walk g (xs ++ ys) i → (h : Scanner) × Walk g xs h × Walk h ys i
walk_split {g} [] w = (g, stay, w)
walk_split (x ∷ xs) (move e w) = let s = walk_split xs w in (s.0, move e s.1, s.2)

-- FROM ITEMS TO WALKS

operands_walk : (e : ContextChange) (n b : ℕ) (c : Context) (ops : List ℕ) → length ops ≡ n → Walk (going e n b c) ops (between (context_after e (last b ops) c))
operands_walk e zero b c [] q = stay
operands_walk e zero b c (x ∷ ops) q = absurd (omega arith)
operands_walk e (suc n) b c [] q = absurd (omega arith)
operands_walk e (suc n) b c (x ∷ ops) q = move refl (operands_walk e n x c ops (omega arith))

-- a legal command is accepted
known_accepted : (k : Command) (c : Context) (b : ℕ) (o : Opening) → o ≡ Known k → legal k.needs c ≡ true → opened o c b ≡ Ok (going k.change (count k.operands c) b c)
known_accepted k c b o e l =
    ap (λ (x : Opening). opened x c b) e
    ∙ ap (λ (t : Bool). cond t (Ok (going k.change (count k.operands c) b c)) (Err (code_for k.needs c))) l

pub opened_1d : (c : Context) → scan (between c) 0x1D ≡ Ok (record { context = c; place = Extended })
unfolding opening_of
opened_1d c = refl

item_walk : {c d : Context} {x : List ℕ} → Item c x d → Walk (between c) x (between d)
item_walk {c} (command k m l ops q) =
    move (known_accepted k c k.code _ (opening_command m) l) (operands_walk k.change _ k.code c ops q)
item_walk {c} (extended k m l ops q) =
    move {h = record { context = c; place = Extended }} (opened_1d c)
    (move (known_accepted k c k.code _ (extension_command m) l) (operands_walk k.change _ k.code c ops q))

pub items_walk : {c d : Context} {xs : List (List ℕ)} → Items c xs d → Walk (between c) (join xs) (between d)
items_walk Items.none = stay
items_walk (next i r) = walk_append (item_walk i) (items_walk r)

-- FROM WALKS TO ITEMS: what is to come of the item at hand, and the items after it

abbrev Operating : ContextChange → ℕ → ℕ → Context → List ℕ → Context → Type 0
Operating e n b c bs d = (ops : List ℕ) × (xs : List (List ℕ)) × (length ops ≡ n) × Items (context_after e (last b ops) c) xs d × (ops ++ join xs ≡ bs)

abbrev Rest : Place → Context → List ℕ → Context → Type 0
Rest Between c bs d = (xs : List (List ℕ)) × Items c xs d × (join xs ≡ bs)
Rest Extended c bs d = (xs : List (List ℕ)) × Items c xs d × (join xs ≡ 0x1D ∷ bs)
Rest (Inside e n) c bs d = (x : ℕ) × (r : List ℕ) × Operating e n x c r d × (x ∷ r ≡ bs)

abbrev RestOf : Scanner → List ℕ → Context → Type 0
RestOf g bs d = Rest g.place g.context bs d

going_rest : (e : ContextChange) (n b : ℕ) (c : Context) (bs : List ℕ) (d : Context) → RestOf (going e n b c) bs d → Operating e n b c bs d
going_rest e zero b c bs d (xs, its, j) = ([], xs, refl, its, j)
going_rest e (suc n) b c bs d (x, r, g, q) = (x ∷ g.0, g.1, ap suc g.2, g.3, ap (λ (l : List ℕ). x ∷ l) g.4 ∙ q)

pub accepted : {g h : Scanner} → ◌≡◌ {A = Result Scanner ℕ} (Ok g) (Ok h) → h ≡ g
accepted e = cc

pub never_accepted {ℓ} : {A : Type ℓ} {w : ℕ} {h : Scanner} → ◌≡◌ {A = Result Scanner ℕ} (Err w) (Ok h) → A
never_accepted e = let z : ◌≡◌ {A = ℕ} 0 1 = cc in absurd (omega arith)

-- a command that was accepted was legal, and its operands follow
known_rest : (k : Command) (c : Context) (b : ℕ) (bs : List ℕ) (d : Context) (h : Scanner) → b ≡ k.code → opened (Known k) c b ≡ Ok h → RestOf h bs d
    → (legal k.needs c ≡ true) × Operating k.change (count k.operands c) k.code c bs d
known_rest k c b bs d h e p r = go (legal k.needs c) refl p
  where
    go : (t : Bool) → legal k.needs c ≡ t → cond t (Ok (going k.change (count k.operands c) b c)) (Err (code_for k.needs c)) ≡ Ok h
        → (legal k.needs c ≡ true) × Operating k.change (count k.operands c) k.code c bs d
    go true q p = (q, subst (λ (a : ℕ). Operating k.change (count k.operands c) a c bs d) e (going_rest k.change _ b c bs d (subst (λ (g : Scanner). RestOf g bs d) (accepted p) r)))
    go false q p = never_accepted p

rest_step : (p : Place) (c : Context) (b : ℕ) (bs : List ℕ) (d : Context) (h : Scanner) → scan_at p c b ≡ Ok h → RestOf h bs d → Rest p c (b ∷ bs) d
rest_step Between c b bs d h e r = go (opening_of b) refl e
  where
    go : (o : Opening) → opening_of b ≡ o → opened o c b ≡ Ok h → Rest Between c (b ∷ bs) d
    go Unknown q p = never_accepted p
    go (Known k) q p =
        let m = opening_known b k q in
        let g = known_rest k c b bs d h m.1 p r in
        ((k.code ∷ g.1.0) ∷ g.1.1, next (command k m.0 g.0 g.1.0 g.1.2) g.1.3, λ i. sym m.1 i ∷ g.1.4 i)
    go Extension q p =
        let r' : Rest Extended c bs d = subst (λ (g : Scanner). RestOf g bs d) (accepted p) r in
        (r'.0, r'.1, r'.2 ∙ ap (λ (a : ℕ). a ∷ bs) (sym (opening_extension b q)))
rest_step Extended c b bs d h e r = go (extension_of b) refl e
  where
    go : (o : Opening) → extension_of b ≡ o → opened o c b ≡ Ok h → Rest Extended c (b ∷ bs) d
    go Unknown q p = never_accepted p
    go (Known k) q p =
        let m = extension_known b k q in
        let g = known_rest k c b bs d h m.1 p r in
        ((0x1D ∷ k.code ∷ g.1.0) ∷ g.1.1, next (extended k m.0 g.0 g.1.0 g.1.2) g.1.3, λ i. 0x1D ∷ sym m.1 i ∷ g.1.4 i)
    go Extension q p = absurd (extension_none b q)
rest_step (Inside f n) c b bs d h e r = (b, bs, going_rest f n b c bs d (subst (λ (g : Scanner). RestOf g bs d) (accepted e) r), refl)

pub walk_rest : {g i : Scanner} {bs : List ℕ} → Walk g bs i → i.place ≡ Between → RestOf g bs i.context
walk_rest {g} stay e = subst (λ (p : Place). Rest p g.context [] g.context) (sym e) ([], Items.none, refl)
walk_rest {g} {i} {bs} (move {h = h} {b = b} {bs = bs'} s w) e = rest_step g.place g.context b bs' i.context h s (walk_rest w e)

-- WHAT WALKS SAY OF THE GRAMMAR

pub orderly_walk : (c : Context) (bs : List ℕ) → Orderly c bs ↔ ((d : Context) × Walk (between c) bs (between d))
orderly_walk c bs = (λ o. (o.1, subst (λ (l : List ℕ). Walk (between c) l (between o.1)) o.3 (items_walk o.2)), back)
  where
    back : (d : Context) × Walk (between c) bs (between d) → Orderly c bs
    back (d, w) = let r = walk_rest w refl in (r.0, d, r.1, r.2)

-- every scanner can be brought to the end of its item
abbrev Finish : Scanner → Type 0
Finish g = (more : List ℕ) × (d : Context) × Walk g more (between d) × Bytes more

finish_inside : (e : ContextChange) (n : ℕ) (c : Context) → Finish (record { context = c; place = Inside e n })
finish_inside e zero c = (0 ∷ [], context_after e 0 c, move refl stay, (omega arith, tt))
finish_inside e (suc n) c = let f = finish_inside e n c in (0 ∷ f.0, f.1, move refl f.2, (omega arith, f.3))

finish : (p : Place) (c : Context) → Finish (record { context = c; place = p })
unfolding extension_of extended_commands
finish Between c = ([], c, stay, tt)
finish Extended c = (0x0F ∷ [], c, move refl stay, (omega arith, tt))
finish (Inside e n) c = finish_inside e n c

pub continuable_walk : (c : Context) (bs : List ℕ) → Continuable c bs ↔ ((g : Scanner) × Walk (between c) bs g)
continuable_walk c bs = (there, back)
  where
    there : Continuable c bs → (g : Scanner) × Walk (between c) bs g
    there (more, small, o) = let s = walk_split bs ((orderly_walk c (bs ++ more)).0 o).1 in (s.0, s.1)

    back : (g : Scanner) × Walk (between c) bs g → Continuable c bs
    back (g, w) = let f = finish g.place g.context in (f.0, f.3, (orderly_walk c (bs ++ f.0)).1 (f.1, walk_append w f.2))
