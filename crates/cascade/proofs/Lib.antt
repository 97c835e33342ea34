mod Cascades
