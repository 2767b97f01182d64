pub mod CellVoltageRange
