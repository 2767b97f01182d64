-- Document 01, `readreply`: "prints one line of counts, then the fields .. or `refused N`". Definitions only.
use Rattle.std.specs.Prelude.{ℕ, cond, List, ◌++◌, eqb}
use Rattle.soc.specs.Soc.{decoded_soc_counts}
use Rattle.cell_voltage_range.specs.CellVoltageRange.{decoded_cell_voltage_range_counts}
use Rattle.temperature_range.specs.TemperatureRange.{decoded_temperature_range}
use Rattle.mosfet_status.specs.MosfetStatus.{decoded_mosfet_status_counts}
use Rattle.status.specs.Status.{decoded_status}
use Rattle.text.specs.Words.{word}
use Rattle.text.specs.Text.{hex2, field, newline}
use Rattle.report.specs.declared.Tally.{Tally}
use Rattle.report.specs.Lines.{refused_line}
use Rattle.report.specs.Fields.{soc_text, cell_voltage_range_text, temperature_range_text, mosfet_status_text, status_text}
use Rattle.report.specs.Lists.{cells_text, sensors_text, balance_text, faults_text}

-- "The command is printed as two hexadecimal digits, all else decimal"
abbrev pub counts_head : ℕ → Tally → List ℕ
counts_head command t = word "reply " ++ hex2 command ++ field (word " taken") t.taken ++ field (word " held") t.held

abbrev pub counts_middle : ℕ → Tally → List ℕ
counts_middle command t =
    counts_head command t
    ++ field (word " frames") t.frames
    ++ field (word " discarded") t.discarded
    ++ field (word " cleared") t.cleared

-- (document 02, K3) "its line ends with them after `cleared`"
abbrev pub counts_text : ℕ → Tally → List ℕ
counts_text command t =
    counts_middle command t
    ++ field (word " noise") t.noise
    ++ field (word " sum") t.sum
    ++ field (word " command") t.command
    ++ field (word " number") t.number
    ++ field (word " echo") t.echo
    ++ newline

-- the decoder's answer on the collected bytes; 10: "command not 90 to 98"
unfoldable pub answer_text : ℕ → ℕ → List ℕ → List ℕ
answer_text command count s =
    cond (eqb command 0x90) (soc_text (decoded_soc_counts s))
    (cond (eqb command 0x91) (cell_voltage_range_text (decoded_cell_voltage_range_counts s))
    (cond (eqb command 0x92) (temperature_range_text (decoded_temperature_range s))
    (cond (eqb command 0x93) (mosfet_status_text (decoded_mosfet_status_counts s))
    (cond (eqb command 0x94) (status_text (decoded_status s))
    (cond (eqb command 0x95) (cells_text s count)
    (cond (eqb command 0x96) (sensors_text s count)
    (cond (eqb command 0x97) (balance_text s count)
    (cond (eqb command 0x98) (faults_text s)
    (refused_line 10)))))))))

-- "2 when the last push said so, else the decoder's number"
abbrev pub report_text : ℕ → ℕ → Tally → List ℕ → ℕ → List ℕ
report_text command count t s status =
    counts_text command t ++ cond (eqb status 2) (refused_line 2) (answer_text command count s)
