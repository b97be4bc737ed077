-- The laws of records that grow.
use Rattle.desk_lock.specs.Laws.{RecordsGrow}
use Rattle.desk_orders.proofs.RecordLaws.{grew_none, grew_on}
use Rattle.desk_lock.proofs.RecordLaws.{later_one}

pub records_grow : RecordsGrow
records_grow = record { same = grew_none; joins = grew_on; takes = later_one }
