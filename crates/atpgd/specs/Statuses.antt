-- What tells how the server ended.
--     exit_number    the number with which the program ends
--     status_text    what is told of a failure
use Rattle.std.specs.Prelude.{ℕ, List, [], ◌++◌, codes}
use Rattle.std.specs.Fmt.{decimal}
use Rattle.program_edges.specs.StatusLines.{bad_net_line}
use Rattle.atpgd.specs.declared.status.Status.{Status}
use Rattle.atpgd.specs.declared.status.Status.TheVariants.{Done, BadWords, ReadFault, TooLong, BadNet, DoorFault, NoMemory}

abbrev pub exit_number : Status → ℕ
exit_number Done = 0
exit_number (BadWords at) = 2
exit_number ReadFault = 3
exit_number TooLong = 5
exit_number (BadNet line fault) = 6
exit_number NoMemory = 10
exit_number DoorFault = 11

-- each text ends with a line feed
abbrev pub status_text : Status → List ℕ
status_text Done = []
status_text (BadWords at) = codes "bad words at " ++ decimal at ++ codes "\n"
status_text ReadFault = codes "read fault\n"
status_text TooLong = codes "input too long\n"
status_text (BadNet line fault) = bad_net_line line fault
status_text DoorFault = codes "door fault\n"
status_text NoMemory = codes "no memory\n"
