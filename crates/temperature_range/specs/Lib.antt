pub mod TemperatureRange
