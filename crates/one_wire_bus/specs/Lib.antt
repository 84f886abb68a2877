pub mod OneWire
