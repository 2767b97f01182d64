-- What `readreply` says where it is given an argument, or a terminal to read from. Definitions only.
use Rattle.std.specs.Prelude.{ℕ, List, ◌++◌}
use Rattle.text.specs.Words.{word}
use Rattle.text.specs.Text.{newline}

abbrev pub usage_text : List ℕ
usage_text =
    word "readreply 0.3.0: reads standard input, a file or a pipe, and takes no argument" ++ newline ++
    word "usage: readreply < FILE" ++ newline ++
    word "or: { printf '\\225\\010'; cat CAPTURE; } | readreply" ++ newline ++
    word "The first two bytes say what was asked: a command, \\220 to \\230 for 90 to 98, and" ++ newline ++
    word "a number of cells or sensors, here 8, which only 95, 96 and 97 look at. Behind" ++ newline ++
    word "them comes what the line brought. Printed are a line of counts and the reading," ++ newline ++
    word "or `refused N`; the exit status is 0 for both. docs/FIELD.md explains each line." ++ newline
