-- What tells how a run ended.
--     exit_number    the number with which the program ends
--     policy_word    the word for a fault of a policy's line
--     status_text    what is told of a failure
use Rattle.std.specs.Prelude.{ℕ, List, [], ◌++◌, codes}
use Rattle.std.specs.Fmt.{decimal}
use Rattle.program_edges.specs.StatusLines.{bad_net_line}
use Rattle.policy_check.specs.declared.fault.PolicyFault.{PolicyFault}
use Rattle.policy_check.specs.declared.fault.PolicyFault.TheVariants as policy_faults
use Rattle.atpg.specs.declared.status.Status.{Status}
use Rattle.atpg.specs.declared.status.Status.TheVariants.{Done, BadWords, ReadFault, WriteFault, TooLong, BadNet, NoSuchRule, TableFull, LongLine, BadPolicy, NoMemory}

abbrev pub exit_number : Status → ℕ
exit_number Done = 0
exit_number (BadWords at) = 2
exit_number ReadFault = 3
exit_number (WriteFault written) = 4
exit_number TooLong = 5
exit_number (BadNet line fault) = 6
exit_number (NoSuchRule id) = 7
exit_number (TableFull limit) = 8
exit_number (LongLine line) = 9
exit_number (BadPolicy line fault) = 13
exit_number NoMemory = 10

abbrev pub policy_word : PolicyFault → List ℕ
policy_word policy_faults.Words = codes "words"
policy_word policy_faults.Number = codes "number"
policy_word policy_faults.Letters = codes "letters"
policy_word policy_faults.Unknown = codes "unknown"
policy_word policy_faults.Width = codes "width"

-- each text ends with a line feed
abbrev pub status_text : Status → List ℕ
status_text Done = []
status_text (BadWords at) = codes "bad words at " ++ decimal at ++ codes "\n"
status_text ReadFault = codes "read fault\n"
status_text (WriteFault written) = codes "write fault after " ++ decimal written ++ codes " bytes\n"
status_text TooLong = codes "input too long\n"
status_text (BadNet line fault) = bad_net_line line fault
status_text (NoSuchRule id) = codes "no rule " ++ decimal id ++ codes "\n"
status_text (TableFull limit) = codes "more than " ++ decimal limit ++ codes " entries\n"
status_text (LongLine line) = codes "session line " ++ decimal line ++ codes " too long\n"
status_text (BadPolicy line fault) = codes "bad policy at line " ++ decimal line ++ codes ": " ++ policy_word fault ++ codes "\n"
status_text NoMemory = codes "no memory\n"
