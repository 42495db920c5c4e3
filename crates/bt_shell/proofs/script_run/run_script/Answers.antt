use Rattle.std.proofs.Common.{None, take}
use Rattle.bt_script.specs.Commands.{commands}
use Rattle.bt_shell.proofs.Sound.{commands_keep_sound, hold_where_sound}
use Rattle.bt_shell.proofs.script_run.run_script.Goals as goal

pub returns-clause-sound : goal.returns-clause-sound
returns-clause-sound g c = λ script n. commands_keep_sound None (take n (commands script)) tt

pub returns-clause-complete : goal.returns-clause-complete
returns-clause-complete g c = λ script n. hold_where_sound _ (commands_keep_sound None (take n (commands script)) tt)
