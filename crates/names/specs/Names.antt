-- The commands of the list 001 in 01's order, each with its name and its code. Lay 001 beside it, sections 2.1, 2.1.1 and 2.2.1
-- to 2.2.3. How many operands a command has is the grammar's to say.
use Rattle.std.specs.Prelude.{ℕ, suc, ◌≡◌, Bool, cond, ◌&&◌, List, [], ◌∷◌, ◌++◌, Option, Some, None, map, eqb, leb, get_or, take, drop}
use Prim.Native.String.{String}
use Rattle.std.specs.Bool.{beq}
use Rattle.padding.specs.Padding.{bytes, blanks, padded}

pub record Row : Type 0 where
  pub name : String
  pub code : ℕ

abbrev pub row : String → ℕ → Row
row n c = record { name = n; code = c }

-- 2.1
abbrev pub common : List Row
common =
    row "ResetDevice" 0x00 ∷
    row "InterfaceChoiceI2C" 0x01 ∷
    row "InterfaceChoiceSPI" 0x02 ∷
    row "InterfaceChoice1W" 0x03 ∷
    row "ReadError" 0x04 ∷
    row "SaveToEPROM" 0x05 ∷
    row "ReadFromEPROM" 0x06 ∷
    row "EnableReports" 0x07 ∷
    row "DisableReports" 0x08 ∷
    row "EnableAutoLoad" 0x09 ∷
    row "DisableAutoLoad" 0x0A ∷
    row "DDRBSetup" 0x0B ∷
    row "DDRBRead" 0x0C ∷
    row "PORTBSetup" 0x0D ∷
    row "PORTBRead" 0x0E ∷
    row "DDRCSetup" 0x0F ∷
    row "DDRCRead" 0x10 ∷
    row "PORTCSetup" 0x11 ∷
    row "PORTCRead" 0x12 ∷
    row "DDRDSetup" 0x13 ∷
    row "DDRDRead" 0x14 ∷
    row "PORTDSetup" 0x15 ∷
    row "PORTDRead" 0x16 ∷
    row "PINBRead" 0x17 ∷
    row "PINCRead" 0x18 ∷
    row "PINDRead" 0x19 ∷
    row "ReadCommonConfig" 0x1A ∷
    row "ReadVersion" 0x1B ∷
    row "SetIOG" 0x1C ∷
    row "DoExtendedCommand" 0x1D ∷
    row "ReadSerialNumber" 0x1E ∷
    []

-- 2.1.1, the bytes after 1D that 01 keeps
abbrev pub extended : List Row
extended =
    row "GivePagelPosPulse_HVAVR" 0x01 ∷
    row "GiveXTALPosPulse_HVAVR" 0x02 ∷
    row "GiveWRNegPulse_HVAVR" 0x03 ∷
    row "GiveWR250NegPulse_HVAVR" 0x08 ∷
    row "GiveWR20NegPulse_HVAVR" 0x09 ∷
    row "SetPort_PG" 0x0A ∷
    row "ClearPort_PG" 0x0B ∷
    row "SetDDR_PG" 0x0C ∷
    row "ClearDDR_PG" 0x0D ∷
    row "LoadIOGTime" 0x0E ∷
    row "ReadIOGTime" 0x0F ∷
    []

-- 2.2.1
abbrev pub i2c : List Row
i2c =
    row "SendStart_I2C" 0x20 ∷
    row "SendStop_I2C" 0x21 ∷
    row "SendByte_I2C" 0x22 ∷
    row "ReadByteA_I2C" 0x23 ∷
    row "ReadByte_I2C" 0x24 ∷
    row "ClearCS_I2C" 0x25 ∷
    row "SetCS_I2C" 0x26 ∷
    row "ReadCS_I2C" 0x27 ∷
    []

-- 2.2.2
abbrev pub spi : List Row
spi =
    row "LoadConfig_SPI" 0x40 ∷
    row "ReadConfig_SPI" 0x41 ∷
    row "LoadPaketSize_SPI" 0x42 ∷
    row "ReadPaketSize_SPI" 0x43 ∷
    row "LoadPaket_SPI" 0x44 ∷
    row "ReadPaket_SPI" 0x45 ∷
    row "StartChange_SPI" 0x46 ∷
    row "ClearSS_SPI" 0x47 ∷
    row "SetSS_SPI" 0x48 ∷
    row "ReadSS_SPI" 0x49 ∷
    row "ReadSignPaket_SPI" 0x4A ∷
    row "FastReadPaket_SPI" 0x4B ∷
    row "FastSendPaket_SPI" 0x4C ∷
    []

-- 2.2.3
abbrev pub one_wire : List Row
one_wire =
    row "SendReset_1W" 0x60 ∷
    row "SendByte_1W" 0x61 ∷
    row "ReadByte_1W" 0x62 ∷
    row "SendBit_1W" 0x63 ∷
    row "ReadBit_1W" 0x64 ∷
    row "LoadTimes_1W" 0x65 ∷
    row "ReadTimes_1W" 0x66 ∷
    row "SendByteSTRPU_1W" 0x67 ∷
    row "ClearSTRPU_1W" 0x68 ∷
    row "Get580usPulse_1W" 0x69 ∷
    row "Get110msPulse_1W" 0x6A ∷
    []

abbrev pub rows : List Row
rows = common ++ extended ++ i2c ++ spi ++ one_wire

abbrev pub row_count : ℕ
row_count = 74

-- the width of a name, padded with blanks
abbrev pub name_width : ℕ
name_width = 24

abbrev pub names : List (List ℕ)
names = map (λ (r : Row). padded name_width (bytes r.name)) rows

abbrev pub codes : List ℕ
codes = map (λ (r : Row). r.code) rows

unfoldable pub name_at : ℕ → List ℕ
name_at n = get_or names n (blanks name_width)

unfoldable pub code_at : ℕ → ℕ
code_at n = get_or codes n 0

abbrev pub is_extended : ℕ → Bool
is_extended n = leb 31 n && leb n 41

-- THEOREM (proofs/Rows.antt, `extended_rows`): those are the rows of `extended`
abbrev pub ExtendedRows : Type 0
ExtendedRows = take 11 (drop 31 rows) ≡ extended

-- the first row from the n-th on that passes a test
unfoldable pub first_where : {A : Type 0} → (ℕ → A → Bool) → ℕ → List A → Option ℕ
first_where test n [] = None
first_where test n (x ∷ xs) = cond (test n x) (Some n) (first_where test (suc n) xs)

-- whether the n-th row has a code and is extended or not
abbrev pub has_code : ℕ → Bool → ℕ → ℕ → Bool
has_code c e n x = eqb x c && beq (is_extended n) e

unfoldable pub row_coded : ℕ → Bool → Option ℕ
row_coded c e = first_where (has_code c e) 0 codes
