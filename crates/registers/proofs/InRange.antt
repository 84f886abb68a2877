-- The range test says exactly the facts of 01's table. Assumes nothing.
use Prim.Native.Nat.{ℕ, ◌%◌, ◌≤◌}
use mathlib.Core.Path.{◌≡◌, refl, ap, subst}
use mathlib.Core.Bool.{Bool, true, false, ◌&&◌, false≢true}
use mathlib.Core.Logic.{◌↔◌}
use borrow.Author.Tests.{lt-ltb, le-leb, eq-eqb, ltb-true, leb-true, eqb-true}
use lib.Dec.{eqb, leb, ltb}
use Rattle.codes.proofs.Both.{both_left, both_right}
use Rattle.packet.specs.Packet.{width, packet_bytes}
use Rattle.registers.specs.Registers.{Page, State, Operand, ToPort, ToCycles, ToI2c, ToConfig, ToSize, ToOneWire, ToOneWireBit, ToOneWireStrong, Wait, Nothing, One, Extended, Packet, Timings, spi_selected, one_wire_selected, bits_in, is_idle, timing_bytes}
use Rattle.registers.specs.Ranges.{selected_count, operand_fits, wait_fits, page_fits, drop_fits, PageInRange, OperandInRange, WaitInRange, InRange, RangeTest}

both : {a b : Bool} → a ≡ true → b ≡ true → a && b ≡ true
both p q = rw (p, q)

module _ (p : Page) where
  facts : page_fits p ≡ true → PageInRange p
  facts e =
      let a = leb (selected_count p.flags) 1 in
      let b = ltb p.flags 32 in
      let c = ltb p.size width in
      let d = leb p.config 7 in
      let f = ltb p.ddrc 64 in
      let g = ltb p.portc 64 in
      let h = eqb (p.ddrd % 4) 0 in
      let i = eqb (p.portd % 4) 0 in
      let e7 = both_left (a && b && c && d && f && g && h) i e in
      let e6 = both_left (a && b && c && d && f && g) h e7 in
      let e5 = both_left (a && b && c && d && f) g e6 in
      let e4 = both_left (a && b && c && d) f e5 in
      let e3 = both_left (a && b && c) d e4 in
      let e2 = both_left (a && b) c e3 in
      record {
        one_interface = leb-true _ _ (both_left a b e2);
        flag_bits = ltb-true _ _ (both_right a b e2);
        size_register = ltb-true _ _ (both_right (a && b) c e3);
        configuration = leb-true _ _ (both_right (a && b && c) d e4);
        c_direction = ltb-true _ _ (both_right (a && b && c && d) f e5);
        c_latch = ltb-true _ _ (both_right (a && b && c && d && f) g e6);
        d_direction = eqb-true _ _ (both_right (a && b && c && d && f && g) h e7);
        d_latch = eqb-true _ _ (both_right (a && b && c && d && f && g && h) i e);
      }

  tested : PageInRange p → page_fits p ≡ true
  tested r =
      both (both (both (both (both (both (both (le-leb _ _ r.one_interface) (lt-ltb _ _ r.flag_bits)) (lt-ltb _ _ r.size_register)) (le-leb _ _ r.configuration)) (lt-ltb _ _ r.c_direction)) (lt-ltb _ _ r.c_latch)) (eq-eqb _ _ r.d_direction))
      (eq-eqb _ _ r.d_latch)

-- A WAIT

operand_test : (o : Operand) (flags : ℕ) → (operand_fits o flags ≡ true) ↔ OperandInRange o flags
operand_test (ToPort r) flags = (λ e. tt, λ r. refl)
operand_test ToCycles flags = (λ e. tt, λ r. refl)
operand_test ToI2c flags = (λ e. e, λ r. r)
operand_test ToConfig flags = (λ e. e, λ r. r)
operand_test ToSize flags = (λ e. e, λ r. r)
operand_test ToOneWire flags = (λ e. e, λ r. r)
operand_test ToOneWireBit flags = (λ e. e, λ r. r)
operand_test ToOneWireStrong flags = (λ e. e, λ r. r)

wait_facts : (w : Wait) (flags : ℕ) (configured : Bool) (n : ℕ) → wait_fits w flags configured n ≡ true → WaitInRange w flags configured n
wait_facts Nothing flags configured n e = tt
wait_facts (One o) flags configured n e = (operand_test o flags).0 e
wait_facts Extended flags configured n e = tt
wait_facts (Packet left exchange) flags configured n e =
    let a = spi_selected flags in
    let b = configured in
    let c = leb 1 left in
    let d = leb left (packet_bytes n) in
    let e2 = both_left (a && b && c) d e in
    let e1 = both_left (a && b) c e2 in
    record { spi_selected = both_left a b e1; spi_configured = both_right a b e1; one_or_more = leb-true _ _ (both_right (a && b) c e2); packet_or_less = leb-true _ _ (both_right (a && b && c) d e) }
wait_facts (Timings left) flags configured n e =
    let a = one_wire_selected flags in
    let b = leb 1 left in
    let c = leb left timing_bytes in
    let e1 = both_left (a && b) c e in
    record { one_wire_selected = both_left a b e1; one_or_more = leb-true _ _ (both_right a b e1); nine_or_less = leb-true _ _ (both_right (a && b) c e) }

wait_tested : (w : Wait) (flags : ℕ) (configured : Bool) (n : ℕ) → WaitInRange w flags configured n → wait_fits w flags configured n ≡ true
wait_tested Nothing flags configured n r = refl
wait_tested (One o) flags configured n r = (operand_test o flags).1 r
wait_tested Extended flags configured n r = refl
wait_tested (Packet left exchange) flags configured n r = both (both (both r.spi_selected r.spi_configured) (le-leb _ _ r.one_or_more)) (le-leb _ _ r.packet_or_less)
wait_tested (Timings left) flags configured n r = both (both r.one_wire_selected (le-leb _ _ r.one_or_more)) (le-leb _ _ r.nine_or_less)

-- A DROP

pub idle_is : (w : Wait) → is_idle w ≡ true → w ≡ Nothing
idle_is Nothing e = refl
idle_is (One o) e = absurd (false≢true e)
idle_is Extended e = absurd (false≢true e)
idle_is (Packet left exchange) e = absurd (false≢true e)
idle_is (Timings left) e = absurd (false≢true e)

drop_test : (pending : Bool) (w : Wait) → (drop_fits pending w ≡ true) ↔ (pending ≡ true → w ≡ Nothing)
drop_test true w = (λ e p. idle_is w e, λ f. ap is_idle (f refl))
drop_test false w = (λ e p. absurd (false≢true p), λ f. refl)

pub range_test : (s : State) → RangeTest s
range_test s =
    let p = page_fits s.page in
    let w = wait_fits s.wait s.page.flags s.page.configured (bits_in s.page) in
    let d = drop_fits s.drop s.wait in (
      λ e.
          let e1 = both_left (p && w) d e in
          record { page = facts s.page (both_left p w e1); wait = wait_facts s.wait _ _ _ (both_right p w e1); no_drop_beside_a_wait = (drop_test s.drop s.wait).0 (both_right (p && w) d e) },
      λ r. both (both (tested s.page r.page) (wait_tested s.wait _ _ _ r.wait)) ((drop_test s.drop s.wait).1 r.no_drop_beside_a_wait),
    )

-- WHAT A WAIT'S FACTS SAY, where the wait is known

pub wait_as : (s : State) (w : Wait) → InRange s → s.wait ≡ w → WaitInRange w s.page.flags s.page.configured (bits_in s.page)
wait_as s w r e = subst (λ (v : Wait). WaitInRange v s.page.flags s.page.configured (bits_in s.page)) e r.wait

pub packet_left : (s : State) (left : ℕ) (exchange : Bool) → InRange s → s.wait ≡ Packet left exchange → (1 ≤ left) × (left ≤ packet_bytes (bits_in s.page))
packet_left s left exchange r e = let t = wait_as s (Packet left exchange) r e in (t.one_or_more, t.packet_or_less)

pub timings_left : (s : State) (left : ℕ) → InRange s → s.wait ≡ Timings left → (1 ≤ left) × (left ≤ timing_bytes)
timings_left s left r e = let t = wait_as s (Timings left) r e in (t.one_or_more, t.nine_or_less)
