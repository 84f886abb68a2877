-- An exchange alone changes the packet register, and no waveform changes its size. Assumes nothing.
use Prim.Native.Nat.{ℕ}
use mathlib.Core.Path.{◌≡◌, refl, sym, ap, subst, ◌∙◌}
use mathlib.Core.Bool.{Bool, false, false≢true}
use mathlib.Core.List.{List, [], ◌∷◌, map, head-eq_of_cons-eq, tail-eq_of_cons-eq}
use mathlib.Core.Logic.{◌⊎◌, inl, inr, ⊎_elim}
use lib.Dec.{eqb}
use lib.ListN.{length}
use types.Run.{OneOf}
use denote.Enum.Declared.{tag_of}
use Rattle.packet.specs.Packet.{register_bytes}
use Rattle.packet.proofs.Bytes.{length_register}
use Rattle.registers.specs.declared.Page.{Page}
use Rattle.signals.specs.Waveforms.{Waveform, Still, Reinit, ReinitHigh, Line, Port, PortPulse, Pb7Pulse, SampleLine, SamplePort, Start, Stop, WriteI2c, ReadI2c, Exchange, ResetOneWire, WriteOneWire, WriteOneWireBit, WriteOneWireStrong, ReadOneWire, ReadOneWireBit, wave_of}
use Rattle.signals.specs.contracts.Waveform as waveform

-- a waveform keeps the register, or is an exchange
keeps_or_exchanges : (p : Page) (w : Waveform) (ss : List ℕ) (m : ℕ) → ((wave_of p w ss m).packet ≡ p.packet) ⊎ (w ≡ Exchange)
unfolding wave_of
keeps_or_exchanges p Still ss m = inl refl
keeps_or_exchanges p Reinit ss m = inl refl
keeps_or_exchanges p (ReinitHigh a) ss m = inl refl
keeps_or_exchanges p (Line a b) ss m = inl refl
keeps_or_exchanges p (Port a b c) ss m = inl refl
keeps_or_exchanges p (PortPulse a b c d e) ss m = inl refl
keeps_or_exchanges p (Pb7Pulse a b) ss m = inl refl
keeps_or_exchanges p (SampleLine a) ss m = inl refl
keeps_or_exchanges p (SamplePort a) ss m = inl refl
keeps_or_exchanges p Start ss m = inl refl
keeps_or_exchanges p Stop ss m = inl refl
keeps_or_exchanges p (WriteI2c a) ss m = inl refl
keeps_or_exchanges p (ReadI2c a) ss m = inl refl
keeps_or_exchanges p Exchange ss m = inr refl
keeps_or_exchanges p ResetOneWire ss m = inl refl
keeps_or_exchanges p (WriteOneWire a) ss m = inl refl
keeps_or_exchanges p (WriteOneWireBit a) ss m = inl refl
keeps_or_exchanges p (WriteOneWireStrong a) ss m = inl refl
keeps_or_exchanges p ReadOneWire ss m = inl refl
keeps_or_exchanges p ReadOneWireBit ss m = inl refl

-- the places of the other names, among which an exchange's is 13
abbrev others : List ℕ
others = 0 ∷ 1 ∷ 2 ∷ 3 ∷ 4 ∷ 5 ∷ 6 ∷ 7 ∷ 8 ∷ 9 ∷ 10 ∷ 11 ∷ 12 ∷ 14 ∷ 15 ∷ 16 ∷ 17 ∷ 18 ∷ 19 ∷ []

abbrev exchanges : ℕ → Bool
exchanges place = eqb place 13

none_exchanges : (ks : List ℕ) (k : ℕ) → map exchanges ks ≡ map (λ (_ : ℕ). false) ks → OneOf ks k → exchanges k ≡ false
none_exchanges [] k e h = absurd h
none_exchanges (i ∷ []) k e h = ap exchanges h ∙ head-eq_of_cons-eq e
none_exchanges (i ∷ j ∷ ks) k e h = ⊎_elim (λ q. ap exchanges q ∙ head-eq_of_cons-eq e) (none_exchanges (j ∷ ks) k (tail-eq_of_cons-eq e)) h

pub packet_kept : (p : Page) (w : Waveform) (ss : List ℕ) (m : ℕ) → OneOf others (tag_of waveform.the_type w) → p.packet ≡ (wave_of p w ss m).packet
packet_kept p w ss m h =
    ⊎_elim (λ q. sym q) (λ q. absurd (false≢true (sym (none_exchanges others _ refl h) ∙ ap (λ (v : Waveform). exchanges (tag_of waveform.the_type v)) q))) (keeps_or_exchanges p w ss m)

pub wave_packet : (p : Page) (w : Waveform) (ss : List ℕ) (m : ℕ) → length p.packet ≡ register_bytes → length (wave_of p w ss m).packet ≡ register_bytes
unfolding wave_of
wave_packet p w ss m h =
    ⊎_elim (λ q. ap length q ∙ h) (λ q. subst (λ (v : Waveform). length (wave_of p v ss m).packet ≡ register_bytes) (sym q) (length_register register_bytes _)) (keeps_or_exchanges p w ss m)
