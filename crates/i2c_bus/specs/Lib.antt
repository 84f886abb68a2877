pub mod I2c
