-- For the contracts of a state and its parts as they are written: the bytes, and the sizes of the arrays, which their types give.
use Rattle.std.specs.Prelude.{ℕ, ◌≡◌, Bool, List, length}
use Rattle.wire.specs.Buffer.{Written}
use Rattle.packet.specs.Packet.{register_bytes}
use Rattle.registers.specs.declared.Page.{Page}
use Rattle.registers.specs.declared.Shared.{Shared}
use Rattle.registers.specs.declared.Wait.{Wait}
use Rattle.registers.specs.declared.State.{State}
use Rattle.registers.specs.Registers.{timing_bytes, image_bytes, serial_bytes, held_bytes}
use Rattle.state_bytes.specs.StateBytes.{page_bytes, shared_bytes, wait_bytes, state_bytes, AllSized}

pub record PagePut (p : Page) (o x : List ℕ) (n : ℕ) : Type 0 where
  pub wrote : Written o 0 (page_bytes p) x n
  pub packet : length p.packet ≡ register_bytes
  pub timings : length p.timings ≡ timing_bytes

pub record SharedPut (h : Shared) (at : ℕ) (o x : List ℕ) (n : ℕ) : Type 0 where
  pub wrote : Written o at (shared_bytes h) x n
  pub eprom : length h.eprom ≡ image_bytes
  pub serial : length h.serial ≡ serial_bytes

pub record WaitPut (w : Wait) (held : List ℕ) (pending : Bool) (at : ℕ) (o x : List ℕ) (n : ℕ) : Type 0 where
  pub wrote : Written o at (wait_bytes w held pending) x n
  pub sized : length held ≡ held_bytes

-- the bytes are a state's
pub record Stored (s : State) (x : List ℕ) : Type 0 where
  pub bytes : x ≡ state_bytes s
  pub sized : AllSized s
