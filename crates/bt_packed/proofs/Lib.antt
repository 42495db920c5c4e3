mod FirstFaults
mod PageReplies
mod PieceReadings
mod WorkedRows
