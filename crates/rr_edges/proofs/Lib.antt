mod EachEdge
mod AllEdges
mod Walk
