-- A state and its bytes determine each other: its parts stand one after another. Assumes nothing.
use Prim.Native.Nat.{ℕ, zero, suc, ◌≤◌}
use mathlib.Core.Path.{◌≡◌, refl, sym, ap, ◌∙◌}
use mathlib.Core.Bool.{Bool, true, false, cond, ◌&&◌, ◌||◌, false≢true}
use mathlib.Core.List.{List, [], ◌∷◌, ◌++◌, append_assoc}
use native.Mathlib.Omega.{arith}
use borrow.Author.Tests.{eqb-true, leb-true, eq-eqb}
use lib.Dec.{eqb, leb}
use lib.ListN.{get_or, length, drop, length-append, drop_of_length-le}
use Rattle.packet.specs.Packet.{register_bytes}
use Rattle.registers.specs.declared.State.{State}
use Rattle.registers.specs.Registers.{timing_bytes, image_bytes, serial_bytes, held_bytes}
use Rattle.state_bytes.specs.StateBytes.{at_configured, at_packet, at_timings, at_eprom, at_cycles, at_version, at_serial, at_wait, at_left, at_held, at_drop, state_size, wait_code, wait_left, wait_of, piece, state_bytes, state_in, is_state, AllSized, StateBack, BytesBack}
use Rattle.state_bytes.proofs.Parts.{piece_is, byte_is, piece_first, bytes_at, bytes_first}
use Rattle.state_bytes.proofs.Waits.{wait_numbered, code_back, left_back}

-- THE PARTS IN A ROW: registers, packet register, timings; EPROM, cycles and version, serial number; wait and left, held, drop
abbrev row : List ℕ → List ℕ → List ℕ → List ℕ → List ℕ → List ℕ → List ℕ → List ℕ → ℕ → List ℕ
row r p t e c n w h d = r ++ p ++ t ++ (e ++ c ++ n) ++ (w ++ h ++ (d ∷ []))

regroup : (r p t e c n w h : List ℕ) (d : ℕ) → row r p t e c n w h d ≡ r ++ (p ++ (t ++ (e ++ (c ++ (n ++ (w ++ (h ++ (d ∷ []))))))))
regroup r p t e c n w h d = simp append_assoc

-- the parts of a row that have their sizes, by their places
module _ (r p t e n h : List ℕ) (cycles version code left mark : ℕ) (sr : length r ≡ at_packet) (sp : length p ≡ register_bytes) (st : length t ≡ timing_bytes) (se : length e ≡ image_bytes) (sn : length n ≡ serial_bytes) (sh : length h ≡ held_bytes) where
  abbrev i : List ℕ
  i = row r p t e (cycles ∷ version ∷ []) n (code ∷ left ∷ []) h mark

  row_size : length i ≡ state_size
  row_size = simp length-append (omega arith)

  row_packet : piece i at_packet register_bytes ≡ p
  row_packet = piece_is i r p (t ++ (e ++ ((cycles ∷ version ∷ []) ++ (n ++ ((code ∷ left ∷ []) ++ (h ++ (mark ∷ []))))))) at_packet register_bytes (regroup r p t e (cycles ∷ version ∷ []) n (code ∷ left ∷ []) h mark) sr sp

  row_timings : piece i at_timings timing_bytes ≡ t
  row_timings = piece_is i (r ++ p) t (e ++ ((cycles ∷ version ∷ []) ++ (n ++ ((code ∷ left ∷ []) ++ (h ++ (mark ∷ [])))))) at_timings timing_bytes (simp append_assoc) (simp length-append (omega arith)) st

  row_eprom : piece i at_eprom image_bytes ≡ e
  row_eprom = piece_is i (r ++ p ++ t) e ((cycles ∷ version ∷ []) ++ (n ++ ((code ∷ left ∷ []) ++ (h ++ (mark ∷ []))))) at_eprom image_bytes (simp append_assoc) (simp length-append (omega arith)) se

  row_cycles : get_or i at_cycles 0 ≡ cycles
  row_cycles = byte_is i (r ++ p ++ t ++ e) cycles ((version ∷ []) ++ (n ++ ((code ∷ left ∷ []) ++ (h ++ (mark ∷ []))))) at_cycles (simp append_assoc) (simp length-append (omega arith))

  row_version : get_or i at_version 0 ≡ version
  row_version = byte_is i (r ++ p ++ t ++ e ++ (cycles ∷ [])) version (n ++ ((code ∷ left ∷ []) ++ (h ++ (mark ∷ [])))) at_version (simp append_assoc) (simp length-append (omega arith))

  row_serial : piece i at_serial serial_bytes ≡ n
  row_serial = piece_is i (r ++ p ++ t ++ e ++ (cycles ∷ version ∷ [])) n ((code ∷ left ∷ []) ++ (h ++ (mark ∷ []))) at_serial serial_bytes (simp append_assoc) (simp length-append (omega arith)) sn

  row_code : get_or i at_wait 0 ≡ code
  row_code = byte_is i (r ++ p ++ t ++ e ++ (cycles ∷ version ∷ []) ++ n) code ((left ∷ []) ++ (h ++ (mark ∷ []))) at_wait (simp append_assoc) (simp length-append (omega arith))

  row_left : get_or i at_left 0 ≡ left
  row_left = byte_is i (r ++ p ++ t ++ e ++ (cycles ∷ version ∷ []) ++ n ++ (code ∷ [])) left (h ++ (mark ∷ [])) at_left (simp append_assoc) (simp length-append (omega arith))

  row_held : piece i at_held held_bytes ≡ h
  row_held = piece_is i (r ++ p ++ t ++ e ++ (cycles ∷ version ∷ []) ++ n ++ (code ∷ left ∷ [])) h (mark ∷ []) at_held held_bytes (simp append_assoc) (simp length-append (omega arith)) sh

  row_drop : get_or i at_drop 0 ≡ mark
  row_drop = byte_is i (r ++ p ++ t ++ e ++ (cycles ∷ version ∷ []) ++ n ++ (code ∷ left ∷ []) ++ h) mark [] at_drop (simp append_assoc) (simp length-append (omega arith))

-- THE BYTES OF A STATE are a state's, this one's
mark_back : (b : Bool) → eqb (cond b 1 0) 1 ≡ b
mark_back true = refl
mark_back false = refl

mark_known : (b : Bool) → leb (cond b 1 0) 1 ≡ true
mark_known true = refl
mark_known false = refl

module _ (s : State) (w : AllSized s) where
  abbrev front : List ℕ
  front = s.page.flags ∷ s.page.error ∷ s.page.ddrb ∷ s.page.portb ∷ s.page.ddrc ∷ s.page.portc ∷ s.page.ddrd ∷ s.page.portd ∷ s.page.config ∷ cond s.page.configured 1 0 ∷ s.page.size ∷ []

  -- a law of rows, at the state's parts
  abbrev at_state : {A : List ℕ → List ℕ → List ℕ → List ℕ → List ℕ → List ℕ → ℕ → ℕ → ℕ → ℕ → ℕ → Type 0}
      → ((r p t e n h : List ℕ) (cycles version code left mark : ℕ) → length r ≡ at_packet → length p ≡ register_bytes → length t ≡ timing_bytes → length e ≡ image_bytes → length n ≡ serial_bytes → length h ≡ held_bytes → A r p t e n h cycles version code left mark)
      → A front s.page.packet s.page.timings s.shared.eprom s.shared.serial s.held s.shared.cycles s.shared.version (wait_code s.wait) (wait_left s.wait) (cond s.drop 1 0)
  at_state law = law _ _ _ _ _ _ _ _ _ _ _ refl w.registers.packet w.registers.timings w.registers.eprom w.registers.serial w.held

  bytes_are_state : is_state (state_bytes s) ≡ true
  unfolding is_state state_bytes
  bytes_are_state =
      rw (eq-eqb _ _ (at_state row_size), mark_known s.page.configured, at_state row_drop, mark_known s.drop, at_state row_code, at_state row_left, (wait_numbered s.wait).known, (wait_numbered s.wait).left)

  state_again : state_in (state_bytes s) ≡ s
  unfolding state_in state_bytes
  state_again = λ k. record {
    page = record {
      flags = s.page.flags;
      error = s.page.error;
      ddrb = s.page.ddrb;
      portb = s.page.portb;
      ddrc = s.page.ddrc;
      portc = s.page.portc;
      ddrd = s.page.ddrd;
      portd = s.page.portd;
      config = s.page.config;
      configured = mark_back s.page.configured k;
      size = s.page.size;
      packet = at_state row_packet k;
      timings = at_state row_timings k;
    };
    shared = record { eprom = at_state row_eprom k; cycles = at_state row_cycles k; version = at_state row_version k; serial = at_state row_serial k };
    wait = ((λ j. wait_of (at_state row_code j) (at_state row_left j)) ∙ (wait_numbered s.wait).back) k;
    held = at_state row_held k;
    drop = (ap (λ (m : ℕ). eqb m 1) (at_state row_drop) ∙ mark_back s.drop) k;
  }

pub state_back : (s : State) → StateBack s
state_back s w = (bytes_are_state s w, state_again s w)

-- THE STATE OF BYTES has these bytes
pub record StateFacts (i : List ℕ) : Type 0 where
  pub size : length i ≡ state_size
  pub mark : get_or i at_configured 0 ≤ 1
  pub drop : get_or i at_drop 0 ≤ 1
  pub code : get_or i at_wait 0 ≤ 17
  pub left : leb 15 (get_or i at_wait 0) || eqb (get_or i at_left 0) 0 ≡ true

both : (a b : Bool) → a && b ≡ true → (a ≡ true) × (b ≡ true)
both true true e = (refl, refl)
both true false e = absurd (false≢true e)
both false b e = absurd (false≢true e)

pub state_facts : (i : List ℕ) → is_state i ≡ true → StateFacts i
unfolding is_state
state_facts i e =
    let a = leb (get_or i at_configured 0) 1 in
    let b = leb (get_or i at_drop 0) 1 in
    let c = leb (get_or i at_wait 0) 17 in
    let d = leb 15 (get_or i at_wait 0) || eqb (get_or i at_left 0) 0 in
    let f = both (eqb (length i) state_size) (a && b && c && d) e in
    let g = both (a && b && c) d f.1 in
    let h = both (a && b) c g.0 in
    let k = both a b h.0 in
    record { size = eqb-true (length i) state_size f.0; mark = leb-true (get_or i at_configured 0) 1 k.0; drop = leb-true (get_or i at_drop 0) 1 k.1; code = leb-true (get_or i at_wait 0) 17 h.1; left = g.1 }

mark_of : (m : ℕ) → m ≤ 1 → cond (eqb m 1) 1 0 ≡ m
mark_of zero h = refl
mark_of (suc zero) h = refl
mark_of (suc (suc m)) h = absurd (omega arith)

-- a state's bytes are its parts, one after another
joined : (i : List ℕ) → length i ≡ state_size → i ≡ bytes_at i 0 at_packet ++ (piece i at_packet register_bytes ++ (piece i at_timings timing_bytes ++ (piece i at_eprom image_bytes ++ (bytes_at i at_cycles 2 ++ (piece i at_serial serial_bytes ++ (bytes_at i at_wait 2 ++ (piece i at_held held_bytes ++ (get_or i at_drop 0 ∷ []))))))))
joined i e =
    let none : drop state_size i ≡ [] = drop_of_length-le i {i = state_size} (omega (arith, e)) in
    let last = bytes_first i at_drop 1 (omega arith) ∙ ap (λ (r : List ℕ). bytes_at i at_drop 1 ++ r) none in
    let held = piece_first i at_held held_bytes ∙ ap (λ (r : List ℕ). piece i at_held held_bytes ++ r) last in
    let wait = bytes_first i at_wait 2 (omega arith) ∙ ap (λ (r : List ℕ). bytes_at i at_wait 2 ++ r) held in
    let serial = piece_first i at_serial serial_bytes ∙ ap (λ (r : List ℕ). piece i at_serial serial_bytes ++ r) wait in
    let cycles = bytes_first i at_cycles 2 (omega arith) ∙ ap (λ (r : List ℕ). bytes_at i at_cycles 2 ++ r) serial in
    let eprom = piece_first i at_eprom image_bytes ∙ ap (λ (r : List ℕ). piece i at_eprom image_bytes ++ r) cycles in
    let timings = piece_first i at_timings timing_bytes ∙ ap (λ (r : List ℕ). piece i at_timings timing_bytes ++ r) eprom in
    let packet = piece_first i at_packet register_bytes ∙ ap (λ (r : List ℕ). piece i at_packet register_bytes ++ r) timings in
    bytes_first i 0 at_packet (omega arith) ∙ ap (λ (r : List ℕ). bytes_at i 0 at_packet ++ r) packet

pub bytes_back : (i : List ℕ) → BytesBack i
unfolding state_bytes state_in
bytes_back i e =
    let g = state_facts i e in
    let code = code_back (get_or i at_wait 0) (get_or i at_left 0) g.code in
    let left = left_back (get_or i at_wait 0) (get_or i at_left 0) g.code g.left in
    let mark = mark_of (get_or i at_configured 0) g.mark in
    let pending = mark_of (get_or i at_drop 0) g.drop in
    rw (mark, pending, code, left) (regroup (bytes_at i 0 at_packet) (piece i at_packet register_bytes) (piece i at_timings timing_bytes) (piece i at_eprom image_bytes) (bytes_at i at_cycles 2) (piece i at_serial serial_bytes) (bytes_at i at_wait 2) (piece i at_held held_bytes) (get_or i at_drop 0) ∙ sym (joined i g.size))
