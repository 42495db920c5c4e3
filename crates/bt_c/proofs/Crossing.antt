-- A session may go to another thread: its tables have trees of rows and of entries, which have no part that belongs to a thread. Serves the slot of a session.
use denote.Builtin.{unit}
use denote.RattleType.{RattleType}
use denote.Signature.{static_lft}
use denote.Param.Send.{IsSend, IsSync, recorded_send, sendable, struct_send, view_send}
use denote.Struct.Declared.{shape}
use Rattle.std.proofs.Crossing.{Vec-send, crosses}
use Rattle.std.specs.contracts.option.Option as Option
use Rattle.bt_row.proofs.operations.change.Change.TheSendSync as change
use Rattle.bt_row.proofs.rows.row.Row.TheSendSync as row
use Rattle.bt_row.proofs.rows.schema.Schema.TheSendSync as schema
use Rattle.bt_row.specs.contracts.operations.change.Change as Change
use Rattle.bt_row.specs.contracts.rows.row.Row as Row
use Rattle.bt_keycode.proofs.key.Key.TheSendSync as key
use Rattle.bt_messages.proofs.bins.Bins.TheSendSync as bins
use Rattle.bt_message.proofs.entry.Entry.TheSendSync as entry
use Rattle.bt_message.specs.contracts.entry.Entry as Entry
use Rattle.bt_message.specs.contracts.entry.EntryMerge.TheImpl as EntryMerge
use Rattle.bt_message.specs.contracts.message.RowMerge.TheImpl as RowMerge
use Rattle.bt_form.proofs.node.Node.TheLaws.TheKnot as knot
use Rattle.bt_form.proofs.rows.Rows.TheSendSync as rows
use Rattle.bt_form.proofs.shape.Shape.TheSendSync as shape_of_nodes
use Rattle.bt_node.specs.contracts.tree.Tree as Tree
use Rattle.bt_table.proofs.index.IndexHead.TheSendSync as head
use Rattle.bt_table.specs.contracts.index.IndexHead as IndexHead
use Rattle.bt_table.specs.contracts.table.Table as Table
use Rattle.bt_table.specs.contracts.table.Table.TheInside as inside
use Rattle.bt_table.specs.contracts.trees.Trees as Trees
use Rattle.bt_engine.specs.contracts.local_service.LocalService as LocalService
use Rattle.bt_engine.specs.contracts.local_service.LocalService.TheInside as service
use Rattle.bt_engine.specs.contracts.local_service.LocalServiceServiceUnit.TheImpl as local_ghosts
use Rattle.bt_durable.proofs.once.OnceService.TheSendSync as once
use Rattle.bt_durable.specs.contracts.once.OnceServiceService.TheImpl as service_ghosts
use Rattle.bt_durable.specs.contracts.service_machine.ServiceMachineJoin.TheImpl as join_ghosts
use Rattle.bt_durable.specs.contracts.service_machine.ServiceMachineMachine.TheImpl as machine_ghosts
use Rattle.bt_file.specs.contracts.ordered_file.OrderedFileDisk.TheImpl as file_ghosts
use Rattle.bt_durable.specs.contracts.once.OnceService as OnceService
use Rattle.bt_durable.proofs.service_machine.ServiceMachine.TheSendSync as machine
use Rattle.bt_file.specs.contracts.ordered_file.OrderedFileHostDisk.TheImpl as host_ghosts
use Rattle.bt_file.proofs.ordered_file.OrderedFile.TheSendSync as file
use Rattle.bt_journal.proofs.disk.HostCall.TheSendSync as host_call
use Rattle.bt_journal.proofs.group.Group.TheSendSync as group
use Rattle.bt_journal.proofs.reading.Opening.TheSendSync as opening
use Rattle.bt_journal.proofs.store.Store.TheSendSync as store
use Rattle.bt_journal.specs.contracts.disk.HostCall as HostCall
use Rattle.bt_c.proofs.reply.ReplyMark.TheSendSync as mark
use Rattle.bt_c.specs.contracts.reply.ReplyMark as ReplyMark
use Rattle.bt_c.specs.contracts.session.Session as Session

row_tree : IsSend (Tree.the_row Row.the_row Change.the_row RowMerge.ghosts)
row_tree = search (crosses, knot.crosses, sendable, key.the_send, bins.the_send, rows.the_send, shape_of_nodes.the_send, change.the_send, row.the_send) depth 60 fits 20000

entry_tree : IsSend (Tree.the_row Entry.the_row Entry.the_row EntryMerge.ghosts)
entry_tree = search (crosses, knot.crosses, sendable, key.the_send, bins.the_send, rows.the_send, shape_of_nodes.the_send, entry.the_send) depth 60 fits 20000

trees : IsSend Trees.the_row
trees = recorded_send Trees.the_field.row _ _ (Trees.the_type).to_one (struct_send (shape Trees.the_type) (row_tree, (Vec-send _ entry_tree, tt)))

parts : IsSend inside.the_row
parts =
    recorded_send inside.the_field.row _ _ (inside.the_type).to_one
    (struct_send (shape inside.the_type) (schema.the_send, (Vec-send IndexHead.the_row head.the_send, (search (sendable, trees) depth 20, tt))))

table : IsSend Table.the_row
table = view_send _ _ _ _ _ parts

service_parts : IsSend service.the_row
service_parts =
    recorded_send service.the_field.row _ _ (service.the_type).to_one (struct_send (shape service.the_type) (search (crosses, sendable) depth 20, (search (sendable, table) depth 20, tt)))

table_service : IsSend LocalService.the_row
table_service = view_send _ _ _ _ _ service_parts

once_service : IsSend (OnceService.the_row LocalService.the_row)
once_service = search (sendable, table_service, once.the_send) depth 20

nothing : IsSync unit
nothing = search sendable

option : (T : RattleType) → IsSend T → IsSend (Option.the_field T).row
option T s = search (sendable, s) depth 20

pub session : IsSend Session.the_row
session =
    let requests = service_ghosts.ghosts unit LocalService.the_row local_ghosts.ghosts service_ghosts.no_dict service_ghosts.no_dict in
    let state = machine_ghosts.ghosts unit (OnceService.the_row LocalService.the_row) requests machine_ghosts.no_dict machine_ghosts.no_dict in
    let joined = join_ghosts.ghosts unit (OnceService.the_row LocalService.the_row) requests join_ghosts.no_dict join_ghosts.no_dict in
    let sent = machine.the_send static_lft _ _ requests once_service nothing in
    recorded_send Session.the_field.row _ _ (Session.the_type).to_one
    (struct_send (shape Session.the_type) (
      search (sendable, table) depth 20,
      (
        search (crosses, sendable) depth 20,
        (
          search sendable,
          (
            Vec-send ReplyMark.the_row mark.the_send,
            (
              option _ (store.the_send _ _ file_ghosts.ghosts state file.the_send sent),
              (
                option _ (group.the_send _ _ file_ghosts.ghosts joined state file.the_send sent),
                (option _ (opening.the_send _ _ host_ghosts.ghosts file_ghosts.ghosts state file.the_send sent), (Vec-send HostCall.the_row host_call.the_send, tt)),
              ),
            ),
          ),
        ),
      ),
    ))
