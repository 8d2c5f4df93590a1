-- Why there is no plan where there is no table.
use Rattle.path_table.specs.declared.fault.TableFault.{TableFault}
use Rattle.path_table.specs.declared.fault.TableFault.TheVariants as tables
use Rattle.rule_cover.specs.declared.fault.PlanFault.{PlanFault}
use Rattle.rule_cover.specs.declared.fault.PlanFault.TheVariants as plans

abbrev pub without_table : TableFault → PlanFault
without_table (tables.TableFull limit) = plans.TableFull limit
without_table tables.NoMemory = plans.NoMemory
