-- What a change keeps: the ranges, if what it carries fits them, and the size of the packet register. Assumes nothing.
use Prim.Native.Nat.{ℕ, ◌%◌, ◌<◌, ◌≤◌}
use mathlib.Core.Path.{◌≡◌, refl, sym, ap, ◌∙◌}
use mathlib.Core.Bool.{Bool, true, false, false≢true}
use mathlib.Core.List.{List}
use native.Mathlib.Omega.{arith}
use lib.ListN.{length}
use Rattle.packet.specs.Packet.{width, register_bytes, loaded}
use Rattle.packet.proofs.Bytes.{length_register}
use Rattle.registers.specs.Registers.{high_first, bits_in, with_register, with_drop}
use Rattle.registers.specs.Ranges.{selected_count, PageInRange, WaitInRange, InRange}
use Rattle.registers.specs.declared.Page.{Page}
use Rattle.registers.specs.declared.State.{State}
use Rattle.registers.specs.declared.PortRegister.{PortRegister}
use Rattle.registers.specs.declared.PortRegister.TheVariants as r
use Rattle.registers.specs.declared.Wait.{Wait}
use Rattle.registers.specs.declared.Wait.TheVariants as v
use Rattle.decisions.specs.Decisions.{Change}
use Rattle.decisions.specs.Changes.{reset_page, reinited, changed}
use Rattle.decisions.specs.declared.Change.TheVariants as c
use Rattle.decisions.proofs.KeptParts.{Fits, page_register, page_flags}

-- a wait that fits whatever is selected and configured
abbrev pub Free : Wait → Type 0
Free v = (flags : ℕ) (configured : Bool) (n : ℕ) → WaitInRange v flags configured n

-- a wait that fits a state's page
abbrev pub WaitFits : State → Wait → Type 0
WaitFits s v = WaitInRange v s.page.flags s.page.configured (bits_in s.page)

-- WHAT A CHANGE CARRIES fits the ranges
abbrev pub Fitting : State → Change → Type 0
Fitting s c.Nothing = Unit {0}
Fitting s c.Reset = Free s.wait
Fitting s (c.Select f) = Free s.wait × (f < 32) × (selected_count f ≤ 1)
Fitting s c.ClearError = Unit {0}
Fitting s c.Save = Unit {0}
Fitting s (c.Flags f) = Free s.wait × (f < 32) × (f % 8 ≡ s.page.flags % 8)
Fitting s (c.Latch x) = x % 4 ≡ 0
Fitting s (c.Await v) = WaitFits s v
Fitting s c.EndWait = Unit {0}
Fitting s (c.Store a x) = Fits a x
Fitting s (c.Cycles x) = Unit {0}
Fitting s (c.Config x) = x ≤ 7
Fitting s (c.Size x) = x < width
Fitting s (c.Hold v at b) = WaitFits s v
Fitting s (c.LoadPacket at b) = Unit {0}
Fitting s (c.LoadTimings at b) = Unit {0}

-- 00 TO 03
reset_keeps : (p : Page) → PageInRange (reset_page p)
reset_keeps p = record { one_interface = omega arith; flag_bits = omega arith; size_register = omega arith; configuration = omega arith; c_direction = omega arith; c_latch = omega arith; d_direction = refl; d_latch = refl }

reinited_keeps : (p : Page) (f : ℕ) → PageInRange p → f < 32 → selected_count f ≤ 1 → PageInRange (reinited p f)
reinited_keeps p f q h o = record { one_interface = o; flag_bits = h; size_register = q.size_register; configuration = q.configuration; c_direction = omega arith; c_latch = omega arith; d_direction = refl; d_latch = refl }

-- THE DROP: no change begins or ends one

-- it can be marked before the change or after
pub change_marked : (s : State) (pending : Bool) (x : Change) → changed (with_drop s pending) x ≡ with_drop (changed s x) pending
change_marked s p c.Nothing = refl
change_marked s p c.Reset = refl
change_marked s p (c.Select f) = refl
change_marked s p c.ClearError = refl
change_marked s p c.Save = refl
change_marked s p (c.Flags f) = refl
change_marked s p (c.Latch x) = refl
change_marked s p (c.Await a) = refl
change_marked s p c.EndWait = refl
change_marked s p (c.Store a x) = refl
change_marked s p (c.Cycles x) = refl
change_marked s p (c.Config x) = refl
change_marked s p (c.Size x) = refl
change_marked s p (c.Hold a at b) = refl
change_marked s p (c.LoadPacket at b) = refl
change_marked s p (c.LoadTimings at b) = refl

-- none to end
pub drop_same : (s : State) → s.drop ≡ false → with_drop s false ≡ s
drop_same s u = ap (with_drop s) (sym u)

none : (s : State) (w : Wait) → s.drop ≡ false → s.drop ≡ true → w ≡ v.Nothing
none s w u p = absurd (false≢true (sym u ∙ p))

pub change_keeps : (s : State) (x : Change) → InRange s → s.drop ≡ false → Fitting s x → InRange (changed s x)
change_keeps s c.Nothing n u f = n
change_keeps s c.Reset n u f = record { page = reset_keeps s.page; wait = f _ _ _; no_drop_beside_a_wait = none s _ u }
change_keeps s (c.Select g) n u f = record { page = reinited_keeps s.page g n.page f.1 f.2; wait = f.0 _ _ _; no_drop_beside_a_wait = none s _ u }
change_keeps s c.ClearError n u f = record { page = n.page; wait = n.wait; no_drop_beside_a_wait = none s _ u }
change_keeps s c.Save n u f = record { page = n.page; wait = n.wait; no_drop_beside_a_wait = none s _ u }
change_keeps s (c.Flags g) n u f = record { page = page_flags s.page g n.page f.1 f.2; wait = f.0 _ _ _; no_drop_beside_a_wait = none s _ u }
change_keeps s (c.Latch x) n u f = record { page = page_register s.page r.Portd x n.page f; wait = n.wait; no_drop_beside_a_wait = none s _ u }
change_keeps s (c.Await v) n u f = record { page = n.page; wait = f; no_drop_beside_a_wait = none s _ u }
change_keeps s c.EndWait n u f = record { page = n.page; wait = tt; no_drop_beside_a_wait = none s _ u }
change_keeps s (c.Store a x) n u f = record { page = page_register s.page a x n.page f; wait = tt; no_drop_beside_a_wait = none s _ u }
change_keeps s (c.Cycles x) n u f = record { page = n.page; wait = tt; no_drop_beside_a_wait = none s _ u }
change_keeps s (c.Config x) n u f =
    let q = n.page in
    record { page = record { one_interface = q.one_interface; flag_bits = q.flag_bits; size_register = q.size_register; configuration = f; c_direction = q.c_direction; c_latch = q.c_latch; d_direction = q.d_direction; d_latch = q.d_latch }; wait = tt; no_drop_beside_a_wait = none s _ u }
change_keeps s (c.Size x) n u f =
    let q = n.page in
    record { page = record { one_interface = q.one_interface; flag_bits = q.flag_bits; size_register = f; configuration = q.configuration; c_direction = q.c_direction; c_latch = q.c_latch; d_direction = q.d_direction; d_latch = q.d_latch }; wait = tt; no_drop_beside_a_wait = none s _ u }
change_keeps s (c.Hold v at b) n u f = record { page = n.page; wait = f; no_drop_beside_a_wait = none s _ u }
change_keeps s (c.LoadPacket at b) n u f = record { page = n.page; wait = tt; no_drop_beside_a_wait = none s _ u }
change_keeps s (c.LoadTimings at b) n u f = record { page = n.page; wait = tt; no_drop_beside_a_wait = none s _ u }

-- THE PACKET REGISTER has its size after a change

port_packet : (p : Page) (a : PortRegister) (x : ℕ) → (with_register p a x).packet ≡ p.packet
port_packet p r.Ddrb x = refl
port_packet p r.Portb x = refl
port_packet p r.Ddrc x = refl
port_packet p r.Portc x = refl
port_packet p r.Ddrd x = refl
port_packet p r.Portd x = refl

length_loaded : (n : ℕ) (high : Bool) (held : List ℕ) → length (loaded width n high held) ≡ register_bytes
length_loaded n true held = length_register register_bytes _
length_loaded n false held = length_register register_bytes _

pub change_packet : (s : State) (x : Change) → length s.page.packet ≡ register_bytes → length (changed s x).page.packet ≡ register_bytes
change_packet s c.Nothing l = l
change_packet s c.Reset l = l
change_packet s (c.Select f) l = l
change_packet s c.ClearError l = l
change_packet s c.Save l = l
change_packet s (c.Flags f) l = l
change_packet s (c.Latch x) l = l
change_packet s (c.Await v) l = l
change_packet s c.EndWait l = l
change_packet s (c.Store a x) l = rw (port_packet s.page a x) l
change_packet s (c.Cycles x) l = l
change_packet s (c.Config x) l = l
change_packet s (c.Size x) l = l
change_packet s (c.Hold v at b) l = l
change_packet s (c.LoadPacket at b) l = length_loaded (bits_in s.page) (high_first s.page.config) _
change_packet s (c.LoadTimings at b) l = l
