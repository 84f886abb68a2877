-- The port registers' rules keep the protected bits, place by place. Assumes nothing.
use Prim.Native.Nat.{ℕ, zero, suc, ◌/◌, ◌%◌, ◌<◌}
use mathlib.Core.Path.{◌≡◌, refl, sym, ap, ◌∙◌}
use native.Mathlib.Omega.{arith}
use Rattle.registers.specs.Registers.{PortRegister, Ddrb, Portb, Ddrc, Portc, Ddrd, Portd, protected, keep_c, keep_d}
use Rattle.registers.specs.Protected.{KeepsProtected, Protected}
use Rattle.registers.proofs.SameBits.{byte_by_bits}

keep_c_lem : (old new : ℕ) → KeepsProtected Ddrc old new (keep_c old new)
keep_c_lem old new zero h = omega arith
keep_c_lem old new (suc zero) h = omega arith
keep_c_lem old new (suc (suc zero)) h = omega arith
keep_c_lem old new (suc (suc (suc zero))) h = omega arith
keep_c_lem old new (suc (suc (suc (suc zero)))) h = omega arith
keep_c_lem old new (suc (suc (suc (suc (suc zero))))) h = omega arith
keep_c_lem old new (suc (suc (suc (suc (suc (suc zero)))))) h = omega arith
keep_c_lem old new (suc (suc (suc (suc (suc (suc (suc zero))))))) h = omega arith
keep_c_lem old new (suc (suc (suc (suc (suc (suc (suc (suc i)))))))) h = absurd (omega arith)

keep_d_lem : (old new : ℕ) → KeepsProtected Ddrd old new (keep_d old new)
keep_d_lem old new zero h = omega arith
keep_d_lem old new (suc zero) h = omega arith
keep_d_lem old new (suc (suc zero)) h = omega arith
keep_d_lem old new (suc (suc (suc zero))) h = omega arith
keep_d_lem old new (suc (suc (suc (suc zero)))) h = omega arith
keep_d_lem old new (suc (suc (suc (suc (suc zero))))) h = omega arith
keep_d_lem old new (suc (suc (suc (suc (suc (suc zero)))))) h = omega arith
keep_d_lem old new (suc (suc (suc (suc (suc (suc (suc zero))))))) h = let e : keep_d old new / 128 ≡ new / 128 = omega arith in ap (λ (q : ℕ). q % 2) e
keep_d_lem old new (suc (suc (suc (suc (suc (suc (suc (suc i)))))))) h = absurd (omega arith)

keeps : (r : PortRegister) (old new : ℕ) → KeepsProtected r old new (protected r old new)
keeps Ddrb old new i h = refl
keeps Portb old new i h = refl
keeps Ddrc old new i h = keep_c_lem old new i h
keeps Portc old new i h = keep_c_lem old new i h
keeps Ddrd old new i h = keep_d_lem old new i h
keeps Portd old new i h = keep_d_lem old new i h

small : (r : PortRegister) (old new : ℕ) → old < 256 → new < 256 → protected r old new < 256
small Ddrb old new h k = k
small Portb old new h k = k
small Ddrc old new h k = omega arith
small Portc old new h k = omega arith
small Ddrd old new h k = omega arith
small Portd old new h k = omega arith

pub protected_right : (r : PortRegister) (old new : ℕ) → Protected r old new
protected_right r old new = record {
  bits = keeps r old new;
  only = λ h k x l e. byte_by_bits x (protected r old new) l (small r old new h k) (λ i j. e i j ∙ sym (keeps r old new i j));
}
